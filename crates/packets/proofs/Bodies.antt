-- A body with a port replaced: its moved sum, spelled as it is sent, is the fresh one.
use Rattle.std.proofs.Common.{◌≡◌, ℕ, ◌+◌, ◌*◌, ◌<◌, ◌≤◌, true, false, ◌&&◌, eqb, ◌≢◌, List, length, arith}
use Rattle.std.proofs.lemmas.Bool.Decides.{nat_tests}
use Rattle.sums.specs.Words.{word_at, put_word, word_sum}
use Rattle.sums.specs.Sums.{fresh, right, moved, rest_sum}
use Rattle.sums.proofs.Carries.{ones_none}
use Rattle.sums.proofs.Edits.{length_put, word_apart}
use Rattle.sums.proofs.Moves.{one_word, moved_is_fresh, moved_to_zero}
use Rattle.mappings.specs.declared.event.Protocol.{Protocol}
use Rattle.mappings.specs.declared.event.Protocol.TheVariants.{Udp, Tcp, Echo}
use Rattle.packets.specs.declared.facts.End.{End}
use Rattle.packets.specs.declared.facts.End.TheVariants.{Source, Destination}
use Rattle.packets.specs.Fields.{port_at, sum_at}
use Rattle.packets.specs.Writing.{Besides, has_no_sum, is_spelled_out, least_of, respelled, sent_body, spelled}

-- a sum m moved so that the other words add up to s
pub record Moved (m s : ℕ) : Type 0 where
  pub some : 0 < s → m ≡ fresh s
  pub none : s ≡ 0 → m ≡ 0

module _ (b : List ℕ) (port before after : ℕ) (r : right (before + word_sum b) ≡ true) where
  -- the port stands at two times j, the sum at two times k
  place_moved : (j k : ℕ) → 2 * j + 1 < length b → 2 * k + 1 < length b → k ≢ j →
      Moved (moved (word_at b (2 * k)) (before + word_at b (2 * j)) (after + port)) (rest_sum after (put_word b (2 * j) port) (2 * k))
  place_moved j k lj lk ne = record {
    some = moved_is_fresh k b (put_word b (2 * j) port) (word_at b (2 * j)) port before after lk (one_word j b port lj) (word_apart b j port k ne) r;
    none = moved_to_zero k b (put_word b (2 * j) port) (word_at b (2 * j)) port before after lk (one_word j b port lj) (word_apart b j port k ne) r;
  }

  pub body_moved : (p : Protocol) (e : End) → least_of p ≤ length b →
      Moved (moved (word_at b (sum_at p)) (before + word_at b (port_at p e)) (after + port)) (rest_sum after (put_word b (port_at p e) port) (sum_at p))
  body_moved Udp Source l = place_moved 0 3 (omega arith) (omega arith) (omega arith)
  body_moved Udp Destination l = place_moved 1 3 (omega arith) (omega arith) (omega arith)
  body_moved Tcp Source l = place_moved 0 8 (omega arith) (omega arith) (omega arith)
  body_moved Tcp Destination l = place_moved 1 8 (omega arith) (omega arith) (omega arith)
  body_moved Echo Source l = place_moved 2 1 (omega arith) (omega arith) (omega arith)
  body_moved Echo Destination l = place_moved 2 1 (omega arith) (omega arith) (omega arith)

-- what is sent for a moved sum m, where the body's words without it add up to t
pub settled : (p : Protocol) (m extra t : ℕ) → Besides p extra → Moved m (extra + t) → spelled p (fresh (extra + t)) ≡ respelled p m t
settled Udp m extra t h v = grind (arith, nat_tests, v.some)
settled Tcp m extra t h v = grind (arith, nat_tests, v.some)
settled Echo m extra t h v = grind (arith, nat_tests, v.some, v.none, ones_none)

-- the sum being in place, it counts in the words only where it is not 0
pub in_place : (p : Protocol) (c : List ℕ) (i m : ℕ) → (eqb m 0 && is_spelled_out p (word_sum (put_word c i m))) ≡ (eqb m 0 && is_spelled_out p (word_sum (put_word c i 0)))
in_place p c i m = grind (arith, nat_tests)

-- the body that is sent, from the sum that the code puts
pub body_sent_lem : (p : Protocol) (e : End) (b : List ℕ) (port before after : ℕ) → least_of p ≤ length b → Besides p after →
    has_no_sum p b ≡ false → right (before + word_sum b) ≡ true → (m x : ℕ) →
    m ≡ moved (word_at b (sum_at p)) (before + word_at b (port_at p e)) (after + port) →
    x ≡ respelled p m (word_sum (put_word (put_word b (port_at p e) port) (sum_at p) 0)) →
    put_word (put_word b (port_at p e) port) (sum_at p) x ≡ sent_body p e after port b
body_sent_lem p e b port before after long besides summed r m x me xe =
    let c : List ℕ = put_word b (port_at p e) port in
    let t : ℕ = word_sum (put_word c (sum_at p) 0) in
    let v : Moved m (after + t) = rw me (body_moved b port before after r p e long) in
    let s : spelled p (fresh (after + t)) ≡ respelled p m t = settled p m after t besides v in
    grind (arith, nat_tests)

pub length_sent_body : (p : Protocol) (e : End) (extra port : ℕ) (b : List ℕ) → length (sent_body p e extra port b) ≡ length b
length_sent_body p e extra port b = grind (arith, nat_tests, length_put)
