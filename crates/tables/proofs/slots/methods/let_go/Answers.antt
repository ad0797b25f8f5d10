-- Each slot is replaced by what is left of it.
use Rattle.std.proofs.Common.{◌≡◌, ℕ, Bool, true, false, not, set, cond, Some, None, Option, IfNone, IfSome, MutBor, sym, ap, ◌∙◌, rules}
use Rattle.std.specs.Bool.{MatchBool}
use Rattle.std.proofs.lemmas.List.Edits.{map_over_more}
use Rattle.blocks.specs.Config.{Config}
use Rattle.blocks.specs.Settings.{config}
use Rattle.mappings.specs.Mappings.{live_or_resting}
use Rattle.tables.specs.declared.mapping.Mapping.{Mapping}
use Rattle.tables.specs.Backs.{kept_in}
use Rattle.tables.specs.Rows.{meaning}
use Rattle.tables.proofs.slots.methods.let_go.Goals as goal

-- what `take_if` leaves of a slot, where its test asks whether the mapping has rested, and does not change it
left : (c : Config) (t : ℕ) (P : MutBor Mapping → Bool → MutBor Mapping → Type 0) →
    ((p q : MutBor Mapping) (b : Bool) → P p b q → (q.now ≡ p.now) × (b ≡ not (live_or_resting c t (meaning p.now)))) → (v r n : Option Mapping) →
    IfNone v ((n ≡ None) × (r ≡ None)) →
    IfSome v (λ x. (p q : MutBor Mapping) × (b : Bool) × (p.now ≡ x) × P p b q × MatchBool b ((n ≡ Some q.now) × (r ≡ None)) ((n ≡ None) × (r ≡ Some q.now))) →
    r ≡ kept_in c t v
left c t P says None r n h k = h.1
left c t P says (Some m) r n h k =
    let told = says k.0 k.1 k.2 k.4 in
    either (live_or_resting c t (meaning m)) k.2 (told.1 ∙ ap (λ x. not (live_or_resting c t (meaning x))) k.3) (told.0 ∙ k.3) k.5
  where
    either : (live b : Bool) → b ≡ not live → k.1.now ≡ m → MatchBool b ((n ≡ Some k.1.now) × (r ≡ None)) ((n ≡ None) × (r ≡ Some k.1.now)) → r ≡ cond live (Some m) None
    either true true e f g = absurd (cc)
    either true false e f g = g.1 ∙ ap Some f
    either false true e f g = g.1
    either false false e f g = absurd (cc)

pub loop-slot-preserved : goal.loop-slot-preserved
loop-slot-preserved c =
    let f = kept_in (config c.args.settings.now) c.args.tick in
    let l = c.loop-slot in
    let x = c.slot-item.result in
    ap (λ v. set l.slots l.slot-index v)
    (left (config c.args.settings.now) c.args.tick _ (λ p q b k. search rules) _ _ _ c.take_if.ensures.none c.take_if.ensures.some ∙ ap f (sym c.slot-item.is))
    ∙ map_over_more f c.args.slots.now l.slots l.slot-index x c.loop-slot-test.true l.invariant c.slot-item.is
