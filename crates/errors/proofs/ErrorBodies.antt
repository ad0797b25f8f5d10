-- Laws of an error's body as it leaves: its quote, its other bytes, and that its sum is fresh and right.
use Rattle.std.proofs.Common.{◌≡◌, ℕ, ◌+◌, ◌*◌, ◌/◌, ◌%◌, ◌<◌, ◌≤◌, true, ◌≢◌, List, ◌++◌, length, take, drop, set, sym, refl, ap, ◌∙◌, zero-add, arith}
use Rattle.std.proofs.lemmas.List.{drop-set-lt, drop_at, length-append, length-drop}
use Rattle.sums.specs.Words.{byte_at, word_at, put_word, word_sum}
use Rattle.sums.specs.Sums.{fresh, rest_sum, right}
use Rattle.sums.proofs.Carries.{fresh_right}
use Rattle.sums.proofs.Edits.{byte_other, length_put, word_same}
use Rattle.sums.proofs.Moves.{fresh_there, right_there}
use Rattle.mappings.specs.declared.event.Protocol.{Protocol}
use Rattle.packets.specs.declared.facts.End.{End}
use Rattle.packets.specs.declared.facts.Endpoint.{Endpoint}
use Rattle.errors.specs.Requoting.{error_body, requoted}
use Rattle.errors.proofs.Requoted.{length_requoted}
use Rattle.errors.proofs.Wholes.{front_byte, front_long}

module _ (p : Protocol) (e : End) (n : Endpoint) (b : List ℕ) where
  -- the body before its sum is put
  abbrev edited : List ℕ
  edited = take 8 b ++ requoted p e n (drop 8 b)

  body_is : error_body p e n b ≡ put_word edited 2 (fresh (rest_sum 0 edited 2))
  unfolding error_body
  body_is = refl

  module _ (long : 36 ≤ length b) where
    edited_long : length edited ≡ length b
    edited_long =
        omega (
          arith,
          length-append (take 8 b) (requoted p e n (drop 8 b)),
          front_long b (requoted p e n (drop 8 b)) (omega arith),
          length_requoted p e n (drop 8 b) (omega (arith, length-drop 8 b)),
          length-drop 8 b,
        )

    pub length_error_body : length (error_body p e n b) ≡ length b
    length_error_body = ap length body_is ∙ (length_put edited 2 (fresh (rest_sum 0 edited 2)) ∙ edited_long)

    -- the quote stands behind the first 8 bytes
    pub quote_there : drop 8 (error_body p e n b) ≡ requoted p e n (drop 8 b)
    quote_there =
        let s : ℕ = fresh (rest_sum 0 edited 2) in
        ap (λ xs. drop 8 xs) body_is
        ∙ (drop-set-lt 8 (set edited 2 (s / 256)) 3 (s % 256) (omega arith)
        ∙ (drop-set-lt 8 edited 2 (s / 256) (omega arith)
        ∙ drop_at (take 8 b) (requoted p e n (drop 8 b)) 8 (front_long b (requoted p e n (drop 8 b)) (omega arith))))

    -- of the first 8 only those of the sum change
    pub error_front : (j : ℕ) → j < 8 → j ≢ 2 → j ≢ 3 → byte_at (error_body p e n b) j ≡ byte_at b j
    error_front j low ne ne' =
        ap (λ xs. byte_at xs j) body_is
        ∙ (byte_other edited 2 (fresh (rest_sum 0 edited 2)) j ne ne' ∙ front_byte b (requoted p e n (drop 8 b)) (omega arith) j low)

    within : 2 * 1 + 1 < length edited
    within = omega (arith, edited_long)

    pub error_right : right (word_sum (error_body p e n b)) ≡ true
    error_right =
        let r : right (0 + word_sum (put_word edited 2 (fresh (rest_sum 0 edited 2)))) ≡ true =
        right_there 0 1 edited (fresh (rest_sum 0 edited 2)) within (fresh_right (rest_sum 0 edited 2)) in
        ap (λ xs. right (word_sum xs)) body_is ∙ rw (zero-add (word_sum (put_word edited 2 (fresh (rest_sum 0 edited 2))))) at r

    pub error_fresh : word_at (error_body p e n b) 2 ≡ fresh (rest_sum 0 (error_body p e n b) 2)
    error_fresh =
        ap (λ xs. word_at xs 2) body_is
        ∙ (word_same edited 2 (fresh (rest_sum 0 edited 2)) within
        ∙ (ap fresh (sym (fresh_there 0 2 edited (fresh (rest_sum 0 edited 2)))) ∙ ap (λ xs. fresh (rest_sum 0 xs 2)) (sym body_is)))
