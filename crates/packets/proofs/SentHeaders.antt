-- Laws of a header as it is sent: what is read from it, and that its sum is fresh and right.
use Rattle.std.proofs.Common.{◌≡◌, ℕ, ◌+◌, ◌-◌, ◌*◌, ◌<◌, true, ◌≢◌, ◌⊎◌, List, length, set, sym, ap, ◌∙◌, inl, inr, zero-add, arith}
use Rattle.std.proofs.lemmas.Bool.Decides.{nat_tests}
use Rattle.std.proofs.lemmas.List.{get_or-set_other, get_or-set_same, length-set}
use Rattle.sums.specs.Words.{byte_at, word_at, long_at, put_word, put_long, word_sum}
use Rattle.sums.specs.Sums.{fresh, right, rest_sum}
use Rattle.sums.proofs.Carries.{fresh_right}
use Rattle.sums.proofs.Edits.{byte_apart, byte_other, long_same, word_above, word_same}
use Rattle.sums.proofs.Moves.{fresh_there, right_there}
use Rattle.packets.specs.declared.facts.End.{End}
use Rattle.packets.specs.declared.facts.End.TheVariants.{Source, Destination}
use Rattle.packets.specs.Fields.{address_at, opposite, time_to_live}
use Rattle.packets.specs.Reading.{plain_header}
use Rattle.packets.specs.Writing.{readdressed, sent_header}
use Rattle.packets.proofs.Headers.{length_readdressed}

module _ (hops : ℕ) (e : End) (a : ℕ) (h : List ℕ) where
  -- a byte that is neither of the time to live, the sum nor the address
  pub header_byte : (j : ℕ) → j ≢ 8 → (j < 10) ⊎ (11 < j) → (j < address_at e) ⊎ (address_at e + 3 < j) → byte_at (sent_header hops e a h) j ≡ byte_at h j
  header_byte j ttl sum address = grind (arith, byte_other, byte_apart, get_or-set_other)

  module _ (l : length h ≡ 20) where
    header_ten : 2 * 5 + 1 < length (readdressed hops e a h)
    header_ten = omega (arith, length_readdressed hops e a h)

    pub header_fresh : word_at (sent_header hops e a h) 10 ≡ fresh (rest_sum 0 (sent_header hops e a h) 10)
    header_fresh =
        word_same (readdressed hops e a h) 10 (fresh (rest_sum 0 (readdressed hops e a h) 10)) header_ten
        ∙ ap fresh (sym (fresh_there 0 10 (readdressed hops e a h) (fresh (rest_sum 0 (readdressed hops e a h) 10))))

    pub header_right : right (word_sum (sent_header hops e a h)) ≡ true
    header_right =
        let r : right (0 + word_sum (sent_header hops e a h)) ≡ true =
        right_there 0 5 (readdressed hops e a h) (fresh (rest_sum 0 (readdressed hops e a h) 10)) header_ten (fresh_right (rest_sum 0 (readdressed hops e a h) 10)) in
        rw (zero-add (word_sum (sent_header hops e a h))) at r

pub header_ttl : (hops : ℕ) (e : End) (a : ℕ) (h : List ℕ) → length h ≡ 20 → time_to_live (sent_header hops e a h) ≡ time_to_live h - hops
header_ttl hops Source a h l = grind (arith, byte_other, byte_apart, get_or-set_same)
header_ttl hops Destination a h l = grind (arith, byte_other, byte_apart, get_or-set_same)

-- what stands before the sum, but for the time to live, stays
pub low_byte : (hops : ℕ) (e : End) (a : ℕ) (h : List ℕ) (j : ℕ) → j ≢ 8 → j < 10 → byte_at (sent_header hops e a h) j ≡ byte_at h j
low_byte hops Source a h j ttl low = header_byte hops Source a h j ttl (inl low) (inl (omega arith))
low_byte hops Destination a h j ttl low = header_byte hops Destination a h j ttl (inl low) (inl (omega arith))

pub plain_sent : (hops : ℕ) (e : End) (a : ℕ) (h b c : List ℕ) → length c ≡ length b → plain_header h b ≡ true → plain_header (sent_header hops e a h) c ≡ true
unfolding plain_header
plain_sent hops e a h b c l t = grind (arith, nat_tests, low_byte hops e a h)

-- the address put is read back
put_there : (a s t at : ℕ) (h : List ℕ) → 11 < at → at + 3 < length h → long_at (put_word (put_long (set h 8 t) at a) 10 s) at ≡ a
put_there a s t at h behind within = grind (arith, word_above, long_same, length-set)

pub address_put : (hops : ℕ) (e : End) (a : ℕ) (h : List ℕ) → length h ≡ 20 → long_at (sent_header hops e a h) (address_at e) ≡ a
address_put hops Source a h l = put_there a (fresh (rest_sum 0 (readdressed hops Source a h) 10)) (time_to_live h - hops) 12 h (omega arith) (omega arith)
address_put hops Destination a h l = put_there a (fresh (rest_sum 0 (readdressed hops Destination a h) 10)) (time_to_live h - hops) 16 h (omega arith) (omega arith)

-- and the other one stays
stays_there : (hops : ℕ) (e : End) (a : ℕ) (h : List ℕ) (at : ℕ) → 11 < at → (at + 3 < address_at e) ⊎ (address_at e + 3 < at) → long_at (sent_header hops e a h) at ≡ long_at h at
stays_there hops e a h at behind apart = grind (arith, header_byte hops e a h)

pub address_stays : (hops : ℕ) (e : End) (a : ℕ) (h : List ℕ) → long_at (sent_header hops e a h) (address_at (opposite e)) ≡ long_at h (address_at (opposite e))
address_stays hops Source a h = stays_there hops Source a h 16 (omega arith) (inr (omega arith))
address_stays hops Destination a h = stays_there hops Destination a h 12 (omega arith) (inl (omega arith))
