-- Laws of a body as it is sent: what is read from it, and that its sum is fresh and right.
use Rattle.std.proofs.Common.{◌≡◌, ℕ, ◌+◌, ◌*◌, ◌<◌, ◌≤◌, true, false, ◌⊎◌, List, length, arith}
use Rattle.std.proofs.lemmas.Bool.Decides.{nat_tests}
use Rattle.sums.specs.Words.{byte_at, word_at, put_word, word_sum}
use Rattle.sums.specs.Sums.{fresh, right, rest_sum}
use Rattle.sums.proofs.Carries.{fresh_right, nonzero_right}
use Rattle.sums.proofs.Edits.{byte_other, length_put, word_above, word_below, word_same}
use Rattle.sums.proofs.Moves.{fresh_there, right_there}
use Rattle.mappings.specs.declared.event.Protocol.{Protocol}
use Rattle.mappings.specs.declared.event.Protocol.TheVariants.{Udp, Tcp, Echo}
use Rattle.packets.specs.declared.facts.End.{End}
use Rattle.packets.specs.declared.facts.End.TheVariants.{Source, Destination}
use Rattle.packets.specs.Fields.{port_at, sum_at}
use Rattle.packets.specs.Writing.{has_no_sum, least_of, sent_body, spelled}

-- a sum in the spelling in which it is sent is right
pub spelled_right : (p : Protocol) (s : ℕ) → right (s + spelled p (fresh s)) ≡ true
spelled_right Udp s = nonzero_right s (fresh s) (fresh_right s)
spelled_right Tcp s = fresh_right s
spelled_right Echo s = fresh_right s

right_at : (p : Protocol) (k extra : ℕ) (c : List ℕ) → 2 * k + 1 < length c → right (extra + word_sum (put_word c (2 * k) (spelled p (fresh (rest_sum extra c (2 * k)))))) ≡ true
right_at p k extra c l = right_there extra k c (spelled p (fresh (rest_sum extra c (2 * k)))) l (spelled_right p (rest_sum extra c (2 * k)))

sum_within : (p : Protocol) (n : ℕ) → least_of p ≤ n → sum_at p + 1 < n
sum_within Udp n l = omega arith
sum_within Tcp n l = omega arith
sum_within Echo n l = omega arith

-- a byte that is neither of the port nor of the sum
pub body_byte : (p : Protocol) (e : End) (extra port : ℕ) (b : List ℕ) (j : ℕ) → (j < port_at p e) ⊎ (port_at p e + 1 < j) → (j < sum_at p) ⊎ (sum_at p + 1 < j) →
    byte_at (sent_body p e extra port b) j ≡ byte_at b j
body_byte p e extra port b j out-port out-sum = grind (arith, nat_tests, byte_other)

-- the port put is read back
pub port_put : (p : Protocol) (e : End) (extra port : ℕ) (b : List ℕ) → least_of p ≤ length b → word_at (sent_body p e extra port b) (port_at p e) ≡ port
port_put Udp Source extra port b l = grind (arith, nat_tests, word_same, word_below, word_above, length_put)
port_put Udp Destination extra port b l = grind (arith, nat_tests, word_same, word_below, word_above, length_put)
port_put Tcp Source extra port b l = grind (arith, nat_tests, word_same, word_below, word_above, length_put)
port_put Tcp Destination extra port b l = grind (arith, nat_tests, word_same, word_below, word_above, length_put)
port_put Echo Source extra port b l = grind (arith, nat_tests, word_same, word_below, word_above, length_put)
port_put Echo Destination extra port b l = grind (arith, nat_tests, word_same, word_below, word_above, length_put)

-- the sum is fresh, in the spelling in which it is sent
pub sum_fresh : (p : Protocol) (e : End) (extra port : ℕ) (b : List ℕ) → least_of p ≤ length b → has_no_sum p b ≡ false →
    word_at (sent_body p e extra port b) (sum_at p) ≡ spelled p (fresh (rest_sum extra (sent_body p e extra port b) (sum_at p)))
sum_fresh p e extra port b l n =
    let c : List ℕ = put_word b (port_at p e) port in
    let s : ℕ = spelled p (fresh (rest_sum extra c (sum_at p))) in
    let w : sum_at p + 1 < length b = sum_within p (length b) l in
    grind (arith, nat_tests, word_same c (sum_at p) s, fresh_there extra (sum_at p) c s, length_put b (port_at p e) port)

-- and so it is right
pub sum_right : (p : Protocol) (e : End) (extra port : ℕ) (b : List ℕ) → least_of p ≤ length b → has_no_sum p b ≡ false → right (extra + word_sum (sent_body p e extra port b)) ≡ true
sum_right Udp e extra port b l n = grind (arith, nat_tests, right_at Udp 3 extra (put_word b (port_at Udp e) port), length_put b (port_at Udp e) port)
sum_right Tcp e extra port b l n = grind (arith, nat_tests, right_at Tcp 8 extra (put_word b (port_at Tcp e) port), length_put b (port_at Tcp e) port)
sum_right Echo e extra port b l n = grind (arith, nat_tests, right_at Echo 1 extra (put_word b (port_at Echo e) port), length_put b (port_at Echo e) port)

-- a sum that is not there stays so
pub sum_none : (p : Protocol) (e : End) (extra port : ℕ) (b : List ℕ) → least_of p ≤ length b → has_no_sum p b ≡ true → word_at (sent_body p e extra port b) (sum_at p) ≡ word_at b (sum_at p)
sum_none Udp Source extra port b l n = grind (arith, nat_tests, word_above)
sum_none Udp Destination extra port b l n = grind (arith, nat_tests, word_above)
sum_none Tcp e extra port b l n = cc
sum_none Echo e extra port b l n = cc
