-- Plain facts about a packet that was read: its lengths, its version, and its right sums.
use Rattle.std.proofs.Common.{◌≡◌, ℕ, ◌+◌, ◌≤◌, true, false, List, length, refl, zero-add, arith, length-take}
use Rattle.std.proofs.lemmas.Bool.Decides.{nat_tests}
use Rattle.sums.specs.Words.{word_sum}
use Rattle.sums.specs.Sums.{right}
use Rattle.mappings.specs.declared.event.Protocol.{Protocol}
use Rattle.mappings.specs.declared.event.Protocol.TheVariants.{Udp, Tcp, Echo}
use Rattle.packets.specs.Fields.{header_of, version_and_length, total_length}
use Rattle.packets.specs.Reading.{plain_header, body_fits, body_right}
use Rattle.packets.specs.Writing.{Besides, besides, has_no_sum, least_of}
use Rattle.packets.proofs.Readable.{payload_for}

pub plain_version : (h b : List ℕ) → plain_header h b ≡ true → version_and_length h ≡ 0x45
unfolding plain_header
plain_version h b e = grind (arith, nat_tests)

pub plain_length : (h b : List ℕ) → plain_header h b ≡ true → total_length h ≡ 20 + length b
unfolding plain_header
plain_length h b e = grind (arith, nat_tests)

pub fits_least : (p : Protocol) (b : List ℕ) → body_fits (payload_for p) b ≡ true → least_of p ≤ length b
fits_least Udp b e = grind (arith, nat_tests)
fits_least Tcp b e = grind (arith, nat_tests)
fits_least Echo b e = grind (arith, nat_tests)

pub right_body : (p : Protocol) (h b : List ℕ) → body_right (payload_for p) h b ≡ true → has_no_sum p b ≡ false → right (besides p h (length b) + word_sum b) ≡ true
right_body Udp h b e n = grind (arith, nat_tests)
right_body Tcp h b e n = e
right_body Echo h b e n = rw zero-add e

pub besides_fits : (p : Protocol) (h : List ℕ) (n : ℕ) → least_of p ≤ n → Besides p (besides p h n)
besides_fits Udp h n l = omega arith
besides_fits Tcp h n l = omega arith
besides_fits Echo h n l = refl

pub length_header : (bs : List ℕ) → 20 ≤ length bs → length (header_of bs) ≡ 20
length_header bs l = omega (arith, length-take 20 bs)
