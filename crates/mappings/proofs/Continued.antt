-- A run that goes on where another ended.
use Rattle.std.proofs.Common.{◌≡◌, cond, leb, List, [], ◌∷◌, ◌++◌, sym, refl, ap, ◌∙◌, append_assoc}
use Rattle.std.proofs.lemmas.Bool.{or_from, lt-leb}
use Rattle.blocks.specs.Config.{Config}
use Rattle.mappings.specs.declared.event.Event.{Event}
use Rattle.mappings.specs.States.{State, fresh}
use Rattle.mappings.specs.Steps.{exhausted, handled, step, last_moment}
use Rattle.mappings.specs.Runs.{occurrence, state_after, transcript_from, book_from}
use Rattle.mappings.specs.Promise.{Running, after}

pub state_on : (c : Config) (s : State) (es fs : List Event) → state_after c s (es ++ fs) ≡ state_after c (state_after c s es) fs
unfolding state_after
state_on c s [] fs = refl
state_on c s (e ∷ es) fs = state_on c (step c e s).state es fs

pub book_on : (c : Config) (s : State) (es fs : List Event) → book_from c s (es ++ fs) ≡ book_from c s es ++ book_from c (state_after c s es) fs
unfolding state_after book_from
book_on c s [] fs = refl
book_on c s (e ∷ es) fs =
    ap (λ ls. (step c e s).lines ++ ls) (book_on c (step c e s).state es fs)
    ∙ sym (append_assoc (step c e s).lines (book_from c (step c e s).state es) (book_from c (state_after c (step c e s).state es) fs))

pub transcript_on : (c : Config) (s : State) (es fs : List Event) → transcript_from c s (es ++ fs) ≡ transcript_from c s es ++ transcript_from c (state_after c s es) fs
unfolding state_after transcript_from
transcript_on c s [] fs = refl
transcript_on c s (e ∷ es) fs = ap (λ xs. occurrence s e (step c e s).verdict ∷ xs) (transcript_on c (step c e s).state es fs)

-- one more event
pub state_more : (c : Config) (es : List Event) (e : Event) → after c (es ++ e ∷ []) ≡ (step c e (after c es)).state
unfolding state_after
state_more c es e = state_on c (fresh c) es (e ∷ [])

-- an event is handled as long as it can be counted
pub running : (c : Config) (e : Event) (s : State) → Running s → step c e s ≡ handled c e s
running c e s r = ap (λ b. cond b (exhausted s) (handled c e s)) (or_from s.over (leb last_moment s.moment) r.0 (lt-leb last_moment s.moment r.1))
