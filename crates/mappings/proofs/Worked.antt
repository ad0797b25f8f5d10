-- The worked examples: each row is computed.
use Rattle.std.proofs.Common.{◌≡◌, ℕ, List, [], ◌∷◌, Some, None, Option, refl, ap, ◌∙◌}
use Rattle.mappings.specs.declared.line.Change.TheVariants.{Given, TakenBack}
use Rattle.mappings.specs.declared.line.Line.{Line}
use Rattle.mappings.specs.States.{fresh}
use Rattle.std.specs.List.{AllByRecursion}
use Rattle.mappings.specs.Searches.{range, first}
use Rattle.mappings.specs.Mappings.{is_in, without}
use Rattle.mappings.specs.Steps.{line_of, holders_left, taken_back}
use Rattle.mappings.specs.Runs.{state_after, transcript_from, book_from}
use Rattle.mappings.specs.Books.{who, who_in, holder_after, given_in}
use Rattle.mappings.specs.Examples.{Right, Worked, row, settings, handed_on, life_and_rest, taken_and_given, WhoAt, WhoInTick, Name, Numbers}

life : AllByRecursion Right life_and_rest
unfolding range first is_in without holders_left taken_back state_after transcript_from book_from holder_after given_in
life = (refl, (refl, (refl, (refl, tt))))

-- the long run is computed once, and the questions are asked of its book
lines : List Line
lines = line_of Given 16 0 8 2 ∷ line_of TakenBack 900 181 8 2 ∷ line_of Given 901 181 8 7 ∷ []

its_book : book_from settings (fresh settings) handed_on ≡ lines
unfolding range first is_in without holders_left taken_back state_after book_from lines
its_book = refl

at_moment : (n : ℕ) (a : Option ℕ) → who settings lines 1152 n ≡ a → Right (row handed_on (WhoAt 1152 n) (Name a))
at_moment n a e = ap Name (ap (λ (book : List Line). who settings book 1152 n) its_book ∙ e)

in_tick : (t : ℕ) (ns : List ℕ) → who_in settings lines 1152 t ≡ ns → Right (row handed_on (WhoInTick 1152 t) (Numbers ns))
in_tick t ns e = ap Numbers (ap (λ (book : List Line). who_in settings book 1152 t) its_book ∙ e)

handed : AllByRecursion Right taken_and_given
unfolding lines holder_after given_in
handed = (at_moment 899 (Some 2) refl, (at_moment 900 None refl, (at_moment 901 (Some 7) refl, (in_tick 181 (2 ∷ 7 ∷ []) refl, tt))))

pub worked : Worked
unfolding range first is_in without holders_left taken_back state_after transcript_from book_from holder_after given_in
worked = ((refl, tt), ((refl, tt), (life, ((refl, tt), ((refl, (refl, (refl, tt))), ((refl, tt), ((refl, (refl, tt)), (handed, tt))))))))
