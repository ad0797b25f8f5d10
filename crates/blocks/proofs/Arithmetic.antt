-- Ports and places, addresses and subscribers, first and further blocks.
use Rattle.std.proofs.Common.{◌≡◌, ℕ, ◌+◌, ◌-◌, ◌*◌, ◌/◌, ◌%◌, ◌<◌, ◌≤◌, ◌&&◌, ltb, leb, Some, None, sym, refl, ap, ◌∙◌, inl, inr, ⊎_elim, arith}
use Rattle.std.proofs.lemmas.Nat.{div-add-mod', div_below, div-mul-add, mod_below, mod-mul-add}
use Rattle.std.proofs.lemmas.Bool.{and_from, and_left, and_parts, and_right, cases_lt, cond-false, cond-true, le-leb, le-ltb, leb-true, lt-leb, lt-ltb, ltb-true}
use Rattle.std.proofs.lemmas.Option.{cond_some}
use Rattle.blocks.specs.Config.{Config, lowest_port, blocks_of}
use Rattle.blocks.specs.Ports.{address_of, block_of, FirstOrFurther, offset_of, OneSubscriber, place_of, port_at, port_of, PortsArePlaces, subscriber_at}
use Rattle.blocks.specs.declared.place.Place.{Place}
use Rattle.blocks.proofs.Limits.{Limits, limits, port_small}

module _ (c : Config) (l : Limits c) where
  has_place : (p : ℕ) → lowest_port ≤ p → p < 65536 → (q : Place) × (place_of c p ≡ Some q) × (port_at c q ≡ Some p)
  has_place p low high =
      let some : 0 < c.size = omega (arith, l.smallest) in
      let block : block_of c p < blocks_of c = div_below (p - lowest_port) c.size (blocks_of c) some (omega (arith, l.whole)) in
      let inside : offset_of c p < c.size = mod_below (p - lowest_port) c.size some in
      let back : port_of c (block_of c p) (offset_of c p) ≡ p = omega (arith, div-add-mod' (p - lowest_port) c.size) in (
        record { block = block_of c p; offset = offset_of c p },
        cond-true (leb lowest_port p) _ _ (le-leb lowest_port p low),
        cond-true _ _ _ (and_from _ _ (lt-ltb _ _ block) (lt-ltb _ _ inside)) ∙ ap Some back,
      )

  has_port : (q : Place) (p : ℕ) → port_at c q ≡ Some p → (place_of c p ≡ Some q) × (p < 65536)
  has_port q p h =
      let got = cond_some _ _ _ h in
      let parts = and_parts (ltb q.block (blocks_of c)) (ltb q.offset c.size) got.0 in
      let inside = ltb-true q.offset c.size parts.1 in
      let small = port_small c l _ q.block q.offset refl (ltb-true q.block (blocks_of c) parts.0) inside in
      let from : p - lowest_port ≡ q.block * c.size + q.offset = omega (arith, got.1) in
      let block : block_of c p ≡ q.block = ap (λ n. n / c.size) from ∙ div-mul-add q.block c.size q.offset inside in
      let offset : offset_of c p ≡ q.offset = ap (λ n. n % c.size) from ∙ mod-mul-add q.block c.size q.offset inside in (
        cond-true (leb lowest_port p) _ _ (le-leb lowest_port p (omega (arith, got.1))) ∙ (λ i. Some (record { block = block i; offset = offset i })),
        omega (arith, got.1),
      )

pub ports_are_places : PortsArePlaces
ports_are_places c good = (has_place c (limits c good), has_port c (limits c good))

pub one_subscriber : OneSubscriber
one_subscriber c good = (there, back, λ s b t h k. (cond_some (ltb b c.subscribers) _ _ h).1 ∙ sym (cond_some (ltb t c.subscribers) _ _ k).1, nobody)
  where
    there : (s a : ℕ) → address_of c s ≡ Some a → subscriber_at c a ≡ Some s
    there s a h =
        let got = cond_some (ltb s c.subscribers) _ _ h in
        let below = ltb-true s c.subscribers got.0 in
        let same : a - c.internal ≡ s = omega (arith, got.1) in
        cond-true _ _ _ (and_from _ _ (le-leb c.internal a (omega (arith, got.1))) (lt-ltb a (c.internal + c.subscribers) (omega (arith, got.1)))) ∙ ap Some same

    back : (s a : ℕ) → subscriber_at c a ≡ Some s → address_of c s ≡ Some a
    back s a h =
        let got = cond_some (leb c.internal a && ltb a (c.internal + c.subscribers)) _ _ h in
        let parts = and_parts (leb c.internal a) (ltb a (c.internal + c.subscribers)) got.0 in
        let low = leb-true c.internal a parts.0 in
        let high = ltb-true a (c.internal + c.subscribers) parts.1 in
        let same : c.internal + s ≡ a = omega (arith, got.1) in
        cond-true _ _ _ (lt-ltb s c.subscribers (omega (arith, got.1))) ∙ ap Some same

    nobody : subscriber_at c c.external ≡ None
    nobody =
        ⊎_elim
        (λ below. cond-false _ _ _ (and_left (leb c.internal c.external) (ltb c.external (c.internal + c.subscribers)) (lt-leb c.internal c.external below)))
        (λ above. cond-false _ _ _ (and_right (leb c.internal c.external) (ltb c.external (c.internal + c.subscribers)) (le-ltb c.external (c.internal + c.subscribers) above)))
        (limits c good).apart

pub first_or_further : FirstOrFurther
first_or_further c good b inside =
    ⊎_elim
    (λ low. inl (cond-true _ _ _ (lt-ltb b c.subscribers low), and_left (leb c.subscribers b) (ltb b (blocks_of c)) (lt-leb c.subscribers b low)))
    (λ high. inr (cond-false _ _ _ (le-ltb b c.subscribers high), and_from _ _ (le-leb c.subscribers b high) (lt-ltb b (blocks_of c) inside)))
    (cases_lt b c.subscribers)
