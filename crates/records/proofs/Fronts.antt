-- What a record at the front takes, and a whole input record by record.
use Rattle.std.proofs.Common.{◌≡◌, ℕ, zero, suc, ◌+◌, ◌<◌, ◌≤◌, Bool, true, false, cond, eqb, leb, ◌⊎◌, List, [], ◌∷◌, ◌++◌, length, get_or, take, drop, sym, refl, ap, ◌∙◌, subst, inl, inr, ⊎_elim, append_assoc, arith, length-drop, take-append-drop, length-take-le, get_or-drop, take-add}
use Rattle.std.specs.List.{flat_map}
use Rattle.std.proofs.lemmas.List.{nil_from_length}
use Rattle.std.proofs.lemmas.Bool.{and_parts, eqb-true, eqb-false, leb-true}
use Rattle.std.proofs.lemmas.Grind.{common_steps}
use Rattle.blocks.specs.Bytes.{AllBytes, bytes_of}
use Rattle.blocks.proofs.BigEndian.{bytes_of_number}
use Rattle.records.specs.Records.{Item, Packet, Tick, Front, End, Fault, Found, front, is_whole_packet, packet_length, side_of}
use Rattle.records.specs.Inputs.{Input, input_after, input_by, item_bytes, side_byte, ReadToTheEnd}

-- how a record was found
ways : (a b w : Bool) (p : Item) (m : ℕ) (item : Item) (n : ℕ) → cond a End (cond b (Found Tick 1) (cond w (Found p m) Fault)) ≡ Found item n →
    (a ≡ false) × (((b ≡ true) × (Tick ≡ item) × (◌≡◌ {A = ℕ} 1 n)) ⊎ ((w ≡ true) × (p ≡ item) × (m ≡ n)))
ways a b w p m item n h = grind (arith, common_steps)

tick_bytes : (bs : List ℕ) → (length bs ≡ 0 → ⊥) → get_or bs 0 0 ≡ 2 → item_bytes Tick ≡ take 1 bs
tick_bytes [] some two = absurd (some refl)
tick_bytes (x ∷ xs) some two = grind (arith, common_steps)

-- four bytes at least, taken apart
four : (bs : List ℕ) → 4 ≤ length bs → take 4 bs ≡ get_or bs 0 0 ∷ get_or bs 1 0 ∷ take 2 (drop 2 bs)
four [] h = absurd (omega arith)
four (a ∷ []) h = absurd (omega arith)
four (a ∷ b ∷ []) h = absurd (omega arith)
four (a ∷ b ∷ c ∷ []) h = absurd (omega arith)
four (a ∷ b ∷ c ∷ d ∷ bs) h = refl

packet_bytes : (bs : List ℕ) → AllBytes bs → is_whole_packet bs ≡ true → item_bytes (Packet (side_of (get_or bs 1 0)) (take (packet_length bs) (drop 4 bs))) ≡ take (4 + packet_length bs) bs
packet_bytes bs small h =
    let n = packet_length bs in
    let body = take n (drop 4 bs) in
    let d = and_parts _ (leb (4 + n) (length bs)) h in
    let c = and_parts _ (leb 4 (length bs)) d.0 in
    let b = and_parts (eqb (get_or bs 0 0) 1) (leb (get_or bs 1 0) 1) c.0 in
    let room = leb-true (4 + n) (length bs) d.1 in
    let long : length body ≡ n = length-take-le n (drop 4 bs) (omega (arith, length-drop 4 bs)) in
    let kind = sym (eqb-true (get_or bs 0 0) 1 b.0) in
    let side : side_byte (side_of (get_or bs 1 0)) ≡ get_or bs 1 0 = grind (arith, common_steps) in
    let counted : bytes_of 2 (length body) ≡ take 2 (drop 2 bs) = ap (bytes_of 2) long ∙ bytes_of_number bs 2 2 small (omega arith) in
    (λ i. kind i ∷ side i ∷ (counted i ++ body))
    ∙ ap (λ front. front ++ body) (sym (four bs (omega arith)))
    ∙ sym (take-add 4 n bs)

-- a record's bytes are those that it takes
record Taken (bs : List ℕ) (item : Item) (n : ℕ) : Type 0 where
  pub bytes : item_bytes item ≡ take n bs
  pub some : 0 < n
  pub within : n ≤ length bs

takes : (bs : List ℕ) → AllBytes bs → (item : Item) (n : ℕ) → front bs ≡ Found item n → Taken bs item n
takes bs small item n h =
    let w = ways (eqb (length bs) 0) (eqb (get_or bs 0 0) 2) (is_whole_packet bs) _ _ item n h in
    record {
      bytes =
          ⊎_elim
          (λ t. ap item_bytes (sym t.1) ∙ tick_bytes bs (eqb-false (length bs) 0 w.0) (eqb-true (get_or bs 0 0) 2 t.0) ∙ ap (λ k. take k bs) t.2)
          (λ t. ap item_bytes (sym t.1) ∙ packet_bytes bs small t.0 ∙ ap (λ k. take k bs) t.2)
          w.1;
      some = grind (arith, common_steps);
      within = grind (arith, common_steps);
    }

-- nothing is left only where nothing is
end_nil : (bs : List ℕ) → front bs ≡ End → bs ≡ []
end_nil bs h = grind (arith, common_steps)

-- the items' bytes are those that were read, to the end or to a fault
record Reads (bs : List ℕ) (i : Input) : Type 0 where
  pub whole : flat_map item_bytes i.items ++ i.rest ≡ bs
  pub stops : (i.rest ≡ []) ⊎ (front i.rest ≡ Fault)

all_bytes_drop : (k : ℕ) (bs : List ℕ) → AllBytes bs → AllBytes (drop k bs)
all_bytes_drop k bs small i = subst (λ b. b < 256) (sym (get_or-drop k bs i 0)) (small (k + i))

next : (go : List ℕ → Input) (bs : List ℕ) → AllBytes bs → ((k : ℕ) → 0 < k → k ≤ length bs → Reads (drop k bs) (go (drop k bs))) → (f : Front) → front bs ≡ f → Reads bs (input_after go bs f)
next go bs small later End h = record { whole = refl; stops = inl (end_nil bs h) }
next go bs small later Fault h = record { whole = refl; stops = inr h }
next go bs small later (Found item k) h =
    let t = takes bs small item k h in
    let after = later k t.some t.within in
    let behind = flat_map item_bytes (go (drop k bs)).items in
    record {
      whole = append_assoc (item_bytes item) behind (go (drop k bs)).rest ∙ (λ i. t.bytes i ++ after.whole i) ∙ take-append-drop k bs;
      stops = after.stops;
    }

read_by : (n : ℕ) (bs : List ℕ) → length bs ≤ n → AllBytes bs → Reads bs (input_by n bs)
unfolding input_by
read_by zero bs h small = record { whole = refl; stops = inl (nil_from_length bs (omega arith)) }
read_by (suc n) bs h small =
    next (input_by n) bs small (λ k some within. read_by n (drop k bs) (omega (arith, length-drop k bs)) (all_bytes_drop k bs small)) (front bs) refl

pub read_to_the_end : ReadToTheEnd
read_to_the_end bs small = let r = read_by (length bs) bs (omega arith) small in (r.whole, r.stops)
