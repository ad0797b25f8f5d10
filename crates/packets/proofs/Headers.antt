-- A header with an address replaced and the time to live lowered: what the edit did to its sum, and what it left alone.
use Rattle.std.proofs.Common.{◌≡◌, ℕ, ◌+◌, ◌-◌, ◌*◌, ◌/◌, ◌%◌, ◌<◌, true, ◌≢◌, List, length, set, ◌∙◌, zero-add, arith}
use Rattle.std.proofs.lemmas.List.{get_or-set_other, length-set}
use Rattle.sums.specs.Words.{byte_at, word_at, put_word, put_long, word_sum}
use Rattle.sums.specs.Sums.{fresh, right, moved, rest_sum}
use Rattle.sums.specs.Laws.{Edit}
use Rattle.sums.proofs.WordSums.{sum_first}
use Rattle.sums.proofs.Edits.{length_put, length_put_long, byte_other}
use Rattle.sums.proofs.Moves.{both_edits, one_high, one_long, moved_is_fresh}
use Rattle.packets.specs.declared.facts.End.{End}
use Rattle.packets.specs.declared.facts.End.TheVariants.{Source, Destination}
use Rattle.packets.specs.Fields.{address_at, version_and_length, time_to_live}
use Rattle.packets.specs.Writing.{readdressed, sent_header}

-- a word behind the time to live stays when that is lowered
word_lowered : (h : List ℕ) (t j : ℕ) → 8 < j → word_at (set h 8 t) j ≡ word_at h j
word_lowered h t j behind = grind (arith, get_or-set_other)

module _ (hops a : ℕ) (h : List ℕ) where
  place_byte : (k j : ℕ) → 11 < 2 * k → j ≢ 8 → j < 12 → byte_at (put_long (set h 8 (time_to_live h - hops)) (2 * k) a) j ≡ byte_at h j
  place_byte k j behind ne below = grind (arith, byte_other, get_or-set_other)

  place_edit : (k : ℕ) → 11 < 2 * k → 2 * k + 3 < length h →
      Edit h (put_long (set h 8 (time_to_live h - hops)) (2 * k) a) (time_to_live h * 256 + (word_at h (2 * k) + word_at h (2 * k + 2)))
      ((time_to_live h - hops) * 256 + (a / 65536 + a % 65536))
  place_edit k behind within =
      let low : List ℕ = set h 8 (time_to_live h - hops) in
      let long : 2 * k + 3 < length low = omega (arith, length-set h 8 (time_to_live h - hops)) in
      let whole : Edit h (put_long low (2 * k) a) (time_to_live h * 256 + (word_at low (2 * k) + word_at low (2 * k + 2)))
      ((time_to_live h - hops) * 256 + (a / 65536 + a % 65536)) =
      both_edits (one_high 4 h (time_to_live h - hops) (omega arith)) (one_long k low a long) in
      record { long = whole.long; sum = omega (arith, whole.sum, word_lowered h (time_to_live h - hops) (2 * k) (omega arith), word_lowered h (time_to_live h - hops) (2 * k + 2) (omega arith)) }

pub byte_stays : (hops : ℕ) (e : End) (a : ℕ) (h : List ℕ) (j : ℕ) → j ≢ 8 → j < 12 → byte_at (readdressed hops e a h) j ≡ byte_at h j
byte_stays hops Source a h j ne below = place_byte hops a h 6 j (omega arith) ne below
byte_stays hops Destination a h j ne below = place_byte hops a h 8 j (omega arith) ne below

pub readdressed_edit : (hops : ℕ) (e : End) (a : ℕ) (h : List ℕ) → length h ≡ 20 →
    Edit h (readdressed hops e a h) (time_to_live h * 256 + (word_at h (address_at e) + word_at h (address_at e + 2)))
    ((time_to_live h - hops) * 256 + (a / 65536 + a % 65536))
readdressed_edit hops Source a h l = place_edit hops a h 6 (omega arith) (omega arith)
readdressed_edit hops Destination a h l = place_edit hops a h 8 (omega arith) (omega arith)

-- the moved sum of the header is the fresh one
pub header_moved : (hops : ℕ) (e : End) (a : ℕ) (h : List ℕ) → length h ≡ 20 → version_and_length h ≡ 0x45 → right (word_sum h) ≡ true →
    moved (word_at (readdressed hops e a h) 10) (time_to_live h * 256 + (word_at h (address_at e) + word_at h (address_at e + 2)))
    ((time_to_live h - hops) * 256 + (a / 65536 + a % 65536))
    ≡ fresh (rest_sum 0 (readdressed hops e a h) 10)
header_moved hops e a h l v r =
    let g : List ℕ = readdressed hops e a h in
    let gone : ℕ = time_to_live h * 256 + (word_at h (address_at e) + word_at h (address_at e + 2)) in
    let new : ℕ = (time_to_live h - hops) * 256 + (a / 65536 + a % 65536) in
    let high : byte_at g 10 ≡ byte_at h 10 = byte_stays hops e a h 10 (omega arith) (omega arith) in
    let low : byte_at g 11 ≡ byte_at h 11 = byte_stays hops e a h 11 (omega arith) (omega arith) in
    let same : word_at g 10 ≡ word_at h 10 = omega arith in
    let first : byte_at (put_word g 10 0) 0 ≡ 0x45 =
    byte_other g 10 0 0 (omega arith) (omega arith) ∙ (byte_stays hops e a h 0 (omega arith) (omega arith) ∙ v) in
    let some : 0 < rest_sum 0 g 10 = omega (arith, sum_first (put_word g 10 0)) in
    let whole : right (0 + word_sum h) ≡ true = rw zero-add r in
    let at-ten : 2 * 5 + 1 < length h = omega arith in
    let law : moved (word_at h 10) (0 + gone) (0 + new) ≡ fresh (rest_sum 0 g 10) =
    moved_is_fresh 5 h g gone new 0 0 at-ten (readdressed_edit hops e a h l) same whole some in
    rw (same, ← zero-add gone, ← zero-add new) law

pub length_readdressed : (hops : ℕ) (e : End) (a : ℕ) (h : List ℕ) → length (readdressed hops e a h) ≡ length h
length_readdressed hops e a h = length_put_long (set h 8 (time_to_live h - hops)) (address_at e) a ∙ length-set h 8 (time_to_live h - hops)

pub length_sent_header : (hops : ℕ) (e : End) (a : ℕ) (h : List ℕ) → length (sent_header hops e a h) ≡ length h
length_sent_header hops e a h = length_put (readdressed hops e a h) 10 (fresh (rest_sum 0 (readdressed hops e a h) 10)) ∙ length_readdressed hops e a h
