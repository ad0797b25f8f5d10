-- What an edit of a quoted header, of a quoted body and of a message's parts did to the sum of its words.
use Rattle.std.proofs.Common.{◌≡◌, ℕ, zero, suc, ◌+◌, ◌*◌, ◌<◌, ◌≤◌, ◌≢◌, List, [], ◌∷◌, ◌++◌, length, sym, refl, ap, ◌∙◌, subst, inl, arith}
use Rattle.std.proofs.lemmas.List.{length-append}
use Rattle.sums.specs.Words.{byte_at, word_at, put_word, put_long, word_sum}
use Rattle.sums.specs.Laws.{Edit}
use Rattle.sums.proofs.WordSums.{sum_none, sum_pair}
use Rattle.sums.proofs.Edits.{byte_apart, length_put, length_put_long, word_apart}
use Rattle.sums.proofs.Moves.{both_edits, one_long, one_word}
use Rattle.mappings.specs.declared.event.Protocol.{Protocol}
use Rattle.mappings.specs.declared.event.Protocol.TheVariants.{Udp, Tcp, Echo}
use Rattle.packets.specs.declared.facts.End.{End}
use Rattle.packets.specs.declared.facts.End.TheVariants.{Source, Destination}
use Rattle.packets.specs.Fields.{address_at, port_at, sum_at, address_sum, halves}

-- the words of two parts, the first of an even length
pub sum_append : (k : ℕ) (a b : List ℕ) → length a ≡ 2 * k → word_sum (a ++ b) ≡ word_sum a + word_sum b
sum_append zero [] b l = omega (arith, sum_none)
sum_append zero (x ∷ a) b l = absurd (omega arith)
sum_append (suc k) [] b l = absurd (omega arith)
sum_append (suc k) (x ∷ []) b l = absurd (omega arith)
sum_append (suc k) (x ∷ (y ∷ a)) b l = omega (arith, sum_pair x y (a ++ b), sum_pair x y a, sum_append k a b (omega arith))

pub no_edit : (bs : List ℕ) → Edit bs bs 0 0
no_edit bs = record { long = refl; sum = refl }

pub parts_edit : (k : ℕ) {a a' b b' : List ℕ} {g n g' n' : ℕ} → length a ≡ 2 * k → Edit a a' g n → Edit b b' g' n' → Edit (a ++ b) (a' ++ b') (g + g') (n + n')
parts_edit k {a} {a'} {b} {b'} l d e = record {
  long = omega (arith, length-append a b, length-append a' b', d.long, e.long);
  sum = omega (arith, sum_append k a b l, sum_append k a' b' (d.long ∙ l), d.sum, e.sum);
}

-- an address and the sum of a header
place_edit : (k a s : ℕ) (h : List ℕ) → 11 < 2 * k → 2 * k + 3 < length h →
    Edit h (put_word (put_long h (2 * k) a) 10 s) (word_at h (2 * k) + word_at h (2 * k + 2) + word_at h 10) (halves a + s)
place_edit k a s h behind within =
    let g : List ℕ = put_long h (2 * k) a in
    let high : byte_at g 10 ≡ byte_at h 10 = byte_apart h (2 * k) a 10 (inl (omega arith)) in
    let low : byte_at g 11 ≡ byte_at h 11 = byte_apart h (2 * k) a 11 (inl (omega arith)) in
    let second : Edit g (put_word g 10 s) (word_at g 10) s = one_word 5 g s (omega (arith, length_put_long h (2 * k) a)) in
    let whole : Edit h (put_word g 10 s) (word_at h (2 * k) + word_at h (2 * k + 2) + word_at g 10) (halves a + s) = both_edits (one_long k h a within) second in
    record { long = whole.long; sum = omega (arith, whole.sum) }

pub header_edit : (e : End) (a s : ℕ) (h : List ℕ) → length h ≡ 20 →
    Edit h (put_word (put_long h (address_at e) a) 10 s) (address_sum e h + word_at h 10) (halves a + s)
header_edit Source a s h l = place_edit 6 a s h (omega arith) (omega arith)
header_edit Destination a s h l = place_edit 8 a s h (omega arith) (omega arith)

-- ports and sums stand at even places, apart from one another, and ports within the first 8 bytes
pub record Places (p : Protocol) (e : End) : Type 0 where
  pub port : ℕ
  pub sum : ℕ
  pub port_is : port_at p e ≡ 2 * port
  pub sum_is : sum_at p ≡ 2 * sum
  pub near : 2 * port + 1 < 8
  pub apart : sum ≢ port

pub places : (p : Protocol) (e : End) → Places p e
places Udp Source = record { port = 0; sum = 3; port_is = refl; sum_is = refl; near = omega arith; apart = omega arith }
places Udp Destination = record { port = 1; sum = 3; port_is = refl; sum_is = refl; near = omega arith; apart = omega arith }
places Tcp Source = record { port = 0; sum = 8; port_is = refl; sum_is = refl; near = omega arith; apart = omega arith }
places Tcp Destination = record { port = 1; sum = 8; port_is = refl; sum_is = refl; near = omega arith; apart = omega arith }
places Echo Source = record { port = 2; sum = 1; port_is = refl; sum_is = refl; near = omega arith; apart = omega arith }
places Echo Destination = record { port = 2; sum = 1; port_is = refl; sum_is = refl; near = omega arith; apart = omega arith }

module _ (p : Protocol) (e : End) (port : ℕ) (b : List ℕ) (long : 8 ≤ length b) where
  pub port_edit : Edit b (put_word b (port_at p e) port) (word_at b (port_at p e)) port
  port_edit =
      let q : Places p e = places p e in
      let P : ℕ → Type 0 = λ i. Edit b (put_word b i port) (word_at b i) port in
      subst P (sym q.port_is) (one_word q.port b port (omega (arith, q.near)))

  pub sum_apart : word_at (put_word b (port_at p e) port) (sum_at p) ≡ word_at b (sum_at p)
  sum_apart =
      let q : Places p e = places p e in
      let Q : ℕ → ℕ → Type 0 = λ i k. word_at (put_word b i port) k ≡ word_at b k in
      subst (λ i. Q i (sum_at p)) (sym q.port_is) (subst (λ k. Q (2 * q.port) k) (sym q.sum_is) (word_apart b q.port port q.sum q.apart))

  -- with the sum, where it is quoted
  pub body_edit : (s : ℕ) → sum_at p + 1 < length b →
      Edit b (put_word (put_word b (port_at p e) port) (sum_at p) s) (word_at b (port_at p e) + word_at b (sum_at p)) (port + s)
  body_edit s within =
      let q : Places p e = places p e in
      let c : List ℕ = put_word b (port_at p e) port in
      let P : ℕ → Type 0 = λ i. Edit c (put_word c i s) (word_at c i) s in
      let second : P (sum_at p) = subst P (sym q.sum_is) (one_word q.sum c s (omega (arith, q.sum_is, length_put b (port_at p e) port))) in
      let whole : Edit b (put_word c (sum_at p) s) (word_at b (port_at p e) + word_at c (sum_at p)) (port + s) = both_edits port_edit second in
      record { long = whole.long; sum = omega (arith, whole.sum, sum_apart) }

-- the same edit, its parts under other names
pub edit_as : {bs xs ys : List ℕ} {g n g' n' : ℕ} → Edit bs xs g n → ys ≡ xs → g' ≡ g → n' ≡ n → Edit bs ys g' n'
edit_as d y g n = record { long = ap length y ∙ d.long; sum = omega (arith, ap word_sum y, d.sum) }

-- of the same list, written in another way
pub edit_of : {bs cs xs : List ℕ} {g n : ℕ} → Edit bs xs g n → cs ≡ bs → Edit cs xs g n
edit_of d c = record { long = d.long ∙ ap length (sym c); sum = omega (arith, ap word_sum c, d.sum) }
