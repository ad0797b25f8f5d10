-- The body of an error, whose quote was edited: the moved sum is the fresh one, since the kind of an error is never 0.
use Rattle.std.proofs.Common.{◌≡◌, ℕ, ◌+◌, ◌*◌, ◌<◌, ◌≤◌, true, List, ◌++◌, length, take, drop, sym, refl, ap, ◌∙◌, zero-add, arith, length-take}
use Rattle.std.proofs.lemmas.List.{get_or_append_left, get_or-take, take-append-drop}
use Rattle.sums.specs.Words.{byte_at, word_at, put_word, word_sum}
use Rattle.sums.specs.Sums.{fresh, moved, rest_sum, right}
use Rattle.sums.specs.Laws.{Edit}
use Rattle.sums.proofs.WordSums.{sum_first}
use Rattle.sums.proofs.Edits.{byte_other}
use Rattle.sums.proofs.Moves.{moved_is_fresh}
use Rattle.packets.specs.Fields.{icmp_kind}
use Rattle.errors.proofs.Changes.{edit_as, edit_of, no_edit, parts_edit}

module _ (b q : List ℕ) (long : 8 ≤ length b) where
  pub front_long : length (take 8 b) ≡ 8
  front_long = omega (arith, length-take 8 b)

  -- the first 8 bytes stay
  pub front_byte : (j : ℕ) → j < 8 → byte_at (take 8 b ++ q) j ≡ byte_at b j
  front_byte j low = get_or_append_left (take 8 b) q 0 j (omega (arith, front_long)) ∙ get_or-take 8 b j 0 low

  pub message_edit : {g n : ℕ} → Edit (drop 8 b) q g n → Edit b (take 8 b ++ q) g n
  message_edit {g} {n} d =
      edit_of (edit_as (parts_edit 4 front_long (no_edit (take 8 b)) d) refl (sym (zero-add g)) (sym (zero-add n))) (sym (take-append-drop 8 b))

  pub message_moved : (g n : ℕ) → Edit (drop 8 b) q g n → 0 < icmp_kind b → right (word_sum b) ≡ true →
      moved (word_at (take 8 b ++ q) 2) g n ≡ fresh (rest_sum 0 (take 8 b ++ q) 2)
  message_moved g n d kind r =
      let c : List ℕ = take 8 b ++ q in
      let same : word_at c 2 ≡ word_at b 2 = omega (arith, front_byte 2 (omega arith), front_byte 3 (omega arith)) in
      let first : byte_at (put_word c 2 0) 0 ≡ byte_at b 0 = byte_other c 2 0 0 (omega arith) (omega arith) ∙ front_byte 0 (omega arith) in
      let some : 0 < rest_sum 0 c 2 = omega (arith, sum_first (put_word c 2 0)) in
      let whole : right (0 + word_sum b) ≡ true = rw zero-add r in
      let within : 2 * 1 + 1 < length b = omega arith in
      let law : moved (word_at b 2) (0 + g) (0 + n) ≡ fresh (rest_sum 0 c 2) = moved_is_fresh 1 b c g n 0 0 within (message_edit d) same whole some in
      ap (λ w. moved w g n) same
      ∙ (ap (λ x. moved (word_at b 2) x n) (sym (zero-add g)) ∙ (ap (λ x. moved (word_at b 2) (0 + g) x) (sym (zero-add n)) ∙ law))
