-- Every step keeps a state sound, and so every run does.
use Rattle.std.proofs.Common.{◌≡◌, ℕ, zero, suc, ◌+◌, ◌-◌, ◌<◌, ◌≤◌, Bool, true, false, cond, ltb, leb, ◌⊎◌, List, [], ◌∷◌, ◌++◌, map, length, get_or, set, replicate, is_some, Some, None, Option, sym, refl, ap, ◌∙◌, subst, inl, inr, ⊎_elim, add-zero, add-suc, suc-add, zero-add, arith}
use mathlib.Core.List.Memᴰ
use mathlib.Core.List.{Memᴰ}
use Rattle.std.specs.List.{filter}
use Rattle.std.proofs.lemmas.List.{length_push, length-set, length-map, length-replicate, get_or-set_same, get_or-set_other}
use Rattle.std.proofs.lemmas.Bool.{leb-true, le-leb, cases_eq, not-true, ltb-true}
use Rattle.blocks.specs.Config.{Config, lowest_port, blocks_of}
use Rattle.blocks.specs.Ports.{block_of, port_of}
use Rattle.mappings.specs.declared.event.Outward.{Outward}
use Rattle.mappings.specs.declared.event.Event.{Event}
use Rattle.mappings.specs.Searches.{range, first}
use Rattle.mappings.specs.Mappings.{Mapping, live, live_or_resting, made, noting}
use Rattle.mappings.specs.States.{State, fresh, block_ports, further_of, ports_of}
use Rattle.mappings.specs.Steps.{Step, put, counted, ended, is_free, is_taken, is_used, is_unheld, left_of, left_at, next_block, with_block, holders_left, ticked, step}
use Rattle.mappings.specs.Runs.{state_after}
use Rattle.mappings.proofs.Options.{none_not_some, same_some, true_not_false, not_some}
use Rattle.mappings.proofs.Firsts.{first_some, first_none, range_has, has_range}
use Rattle.mappings.proofs.Ports.{Good, in_block, block_has, blocks_for, port_block}
use Rattle.mappings.proofs.Shapes.{Shape, Face, Faceless, refuses, stops, delivers, errs, again, makes, gives, ticks, shape}
use Rattle.mappings.proofs.Sound.{Same, Sound, put_cases, of_from, faceless}

counted_sound : (c : Config) (s : State) → Sound c s → Sound c (counted s.slots s)
counted_sound c s i = record { lists = i.lists; blocks = i.blocks; owned = i.owned; held = i.held; listed = i.listed; most = i.most; rests = i.rests; face = i.face }

ended_sound : (c : Config) (s : State) → Sound c s → Sound c (ended s)
ended_sound c s i = record { lists = i.lists; blocks = i.blocks; owned = i.owned; held = i.held; listed = i.listed; most = i.most; rests = i.rests; face = i.face }

same_back : (m n : Mapping) → Same m n → Same n m
same_back m n k = record { subscriber = sym k.subscriber; protocol = sym k.protocol; port = sym k.port }

-- a mapping x is written to the port p
module _ (c : Config) (s : State) (i : Sound c s) (p : ℕ) (x : Mapping) (one : x.subscriber < c.subscribers) (low : lowest_port ≤ p)
    (among : Memᴰ (block_of c p) (blocks_for s x.subscriber)) (lives : live_or_resting c s.tick x ≡ true)
    (alone : (q : ℕ) (n : Mapping) → s.slots q ≡ Some n → live c s.tick n ≡ true → Same x n → q ≡ p) where
  abbrev Owns : Mapping → ℕ → Type 0
  Owns m q = (m.subscriber < c.subscribers) × (lowest_port ≤ q) × Memᴰ (block_of c q) (blocks_for s m.subscriber)

  put_owned : (q : ℕ) (m : Mapping) → put s.slots p (Some x) q ≡ Some m → Owns m q
  put_owned q m e = go (put_cases s.slots p (Some x) q (Some m) e)
    where
      go : ((q ≡ p) × (Some x ≡ Some m)) ⊎ ((q ≡ p → ⊥) × (s.slots q ≡ Some m)) → Owns m q
      go (inl h) = subst (λ y. Owns y q) (same_some h.1) (subst (λ y. Owns x y) (sym h.0) (one, low, among))
      go (inr h) = i.owned q m h.1

  put_rests : (q : ℕ) (m : Mapping) → put s.slots p (Some x) q ≡ Some m → live_or_resting c s.tick m ≡ true
  put_rests q m e = go (put_cases s.slots p (Some x) q (Some m) e)
    where
      go : ((q ≡ p) × (Some x ≡ Some m)) ⊎ ((q ≡ p → ⊥) × (s.slots q ≡ Some m)) → live_or_resting c s.tick m ≡ true
      go (inl h) = subst (λ y. live_or_resting c s.tick y ≡ true) (same_some h.1) lives
      go (inr h) = i.rests q m h.1

  put_face : (q r : ℕ) (m n : Mapping) → put s.slots p (Some x) q ≡ Some m → put s.slots p (Some x) r ≡ Some n →
      live c s.tick m ≡ true → live c s.tick n ≡ true → Same m n → q ≡ r
  put_face q r m n e f l k same = go (put_cases s.slots p (Some x) q (Some m) e) (put_cases s.slots p (Some x) r (Some n) f)
    where
      go : ((q ≡ p) × (Some x ≡ Some m)) ⊎ ((q ≡ p → ⊥) × (s.slots q ≡ Some m)) → ((r ≡ p) × (Some x ≡ Some n)) ⊎ ((r ≡ p → ⊥) × (s.slots r ≡ Some n)) → q ≡ r
      go (inl h) (inl j) = h.0 ∙ sym j.0
      go (inl h) (inr j) = h.0 ∙ sym (alone r n j.1 k (subst (λ y. Same y n) (sym (same_some h.1)) same))
      go (inr h) (inl j) = alone q m h.1 l (subst (λ y. Same y m) (sym (same_some j.1)) (same_back m n same)) ∙ sym j.0
      go (inr h) (inr j) = i.face q r m n h.1 j.1 l k same

  put_sound : Sound c (counted (put s.slots p (Some x)) s)
  put_sound = record { lists = i.lists; blocks = i.blocks; owned = put_owned; held = i.held; listed = i.listed; most = i.most; rests = put_rests; face = put_face }

fresh_lives : (c : Config) (t : ℕ) → leb t (t + c.life + c.rest) ≡ true
fresh_lives c t = le-leb t (t + c.life + c.rest) (omega arith)

-- a mapping's last packet is now
again_sound : (c : Config) → Good c → (s : State) → Sound c s → (o : Outward) (p : ℕ) (m : Mapping) → Face c s o p m → Sound c (counted (put s.slots p (Some (noting s.tick o.to m))) s)
again_sound c g s i o p m f =
    let own = i.owned p m f.there in
    put_sound c s i p (noting s.tick o.to m) own.0 own.1 own.2 (fresh_lives c s.tick)
    (λ q n e l same. i.face q p n m e f.there l f.lives (record { subscriber = sym same.subscriber; protocol = sym same.protocol; port = sym same.port }))

-- no live mapping is of a port that has no face
made_alone : (c : Config) → Good c → (s : State) → Sound c s → (o : Outward) → Faceless c s o → (p q : ℕ) (n : Mapping) → s.slots q ≡ Some n → live c s.tick n ≡ true → Same (made s.tick o) n → q ≡ p
made_alone c g s i o f p q n e l same = absurd (faceless c g s i o f.none q n e l (of_from o n (sym same.subscriber) (sym same.protocol) (sym same.port)))

makes_sound : (c : Config) → Good c → (s : State) → Sound c s → (o : Outward) (p : ℕ) → Faceless c s o → first (is_free s.slots) (ports_of c s o.subscriber) ≡ Some p →
    Sound c (counted (put s.slots p (Some (made s.tick o))) s)
makes_sound c g s i o p f e =
    let at = port_block c g s o.subscriber p (first_some (is_free s.slots) (ports_of c s o.subscriber) p e).0 in
    put_sound c s i p (made s.tick o) f.one at.0 at.1 (fresh_lives c s.tick) (made_alone c g s i o f p)

-- the further block that is given next
pub record Next (c : Config) (s : State) (n b : ℕ) : Type 0 where
  pub fewer : length (further_of s n) < c.further
  pub found : first (is_unheld s.holders) (range c.subscribers (blocks_of c - c.subscribers)) ≡ Some b
  pub from : c.subscribers ≤ b
  pub below : b < blocks_of c
  pub unheld : get_or s.holders b None ≡ None

pub next_known : (c : Config) → Good c → (s : State) (n b : ℕ) → next_block c s n ≡ Some b → Next c s n b
next_known c g s n b e = go (ltb (length (further_of s n)) c.further) refl e
  where
    lowest : Option ℕ
    lowest = first (is_unheld s.holders) (range c.subscribers (blocks_of c - c.subscribers))

    go : (t : Bool) → ltb (length (further_of s n)) c.further ≡ t → cond t lowest None ≡ Some b → Next c s n b
    go false h k = none_not_some k
    go true h k =
        let f = first_some (is_unheld s.holders) (range c.subscribers (blocks_of c - c.subscribers)) b k in
        let r : (c.subscribers ≤ b) × (b < c.subscribers + (blocks_of c - c.subscribers)) = has_range c.subscribers (blocks_of c - c.subscribers) b f.0 in
        let fit : c.subscribers ≤ blocks_of c = g.fit in
        record {
          fewer = ltb-true (length (further_of s n)) c.further h;
          found = k;
          from = r.0;
          below = omega arith;
          unheld = not_some (get_or s.holders b None) (not-true (is_some (get_or s.holders b None)) f.1);
        }

-- the subscriber n is given the block b
module _ (c : Config) (s : State) (i : Sound c s) (n b : ℕ) (one : n < c.subscribers) (new : Next c s n b) where
  given_list : further_of (with_block n b s) n ≡ further_of s n ++ b ∷ []
  given_list = get_or-set_same s.further n (further_of s n ++ b ∷ []) [] (omega (arith, i.lists))

  other_list : (k : ℕ) → (k ≡ n → ⊥) → further_of (with_block n b s) k ≡ further_of s k
  other_list k ne = get_or-set_other s.further n k (further_of s n ++ b ∷ []) [] ne

  given_among : Memᴰ b (further_of (with_block n b s) n)
  given_among = subst (λ ys. Memᴰ b ys) (sym given_list) (Memᴰ.append_right (further_of s n) (Memᴰ.head refl))

  more_blocks : (k x : ℕ) → Memᴰ x (further_of s k) → Memᴰ x (further_of (with_block n b s) k)
  more_blocks k x j = ⊎_elim
      (λ (e : k ≡ n). subst (λ y. Memᴰ x (further_of (with_block n b s) y)) (sym e) (subst (λ ys. Memᴰ x ys) (sym given_list) (Memᴰ.append_left (b ∷ []) (subst (λ y. Memᴰ x (further_of s y)) e j))))
      (λ (ne : k ≡ n → ⊥). subst (λ ys. Memᴰ x ys) (sym (other_list k ne)) j)
      (cases_eq k n)

  abbrev HeldAfter : ℕ → ℕ → Type 0
  HeldAfter k x = (get_or (set s.holders b (Some n)) x None ≡ Some k) × (c.subscribers ≤ x)

  still_held : (k x : ℕ) → Memᴰ x (further_of s k) → HeldAfter k x
  still_held k x j =
      let h = i.held k x j in
      let ne : x ≡ b → ⊥ = λ e. none_not_some (sym new.unheld ∙ ap (λ y. get_or s.holders y None) (sym e) ∙ h.0) in
      (get_or-set_other s.holders b x (Some n) None ne ∙ h.0, h.1)

  now_held : HeldAfter n b
  now_held = (get_or-set_same s.holders b (Some n) None (omega (arith, i.blocks, new.below)), new.from)

  held_after : (k x : ℕ) → Memᴰ x (further_of (with_block n b s) k) → HeldAfter k x
  held_after k x j = ⊎_elim
      (λ (e : k ≡ n). subst (λ y. HeldAfter y x) (sym e)
      (⊎_elim (λ (l : Memᴰ x (further_of s n)). still_held n x l) (λ (l : Memᴰ x (b ∷ [])). subst (λ y. HeldAfter n y) (sym (Memᴰ.eq_of_singleton l)) now_held)
      (Memᴰ.append_cases (further_of s n) (subst (λ ys. Memᴰ x ys) given_list (subst (λ y. Memᴰ x (further_of (with_block n b s) y)) e j)))))
      (λ (ne : k ≡ n → ⊥). still_held k x (subst (λ ys. Memᴰ x ys) (other_list k ne) j))
      (cases_eq k n)

  owned_after : (p : ℕ) (m : Mapping) → s.slots p ≡ Some m → (m.subscriber < c.subscribers) × (lowest_port ≤ p) × Memᴰ (block_of c p) (blocks_for (with_block n b s) m.subscriber)
  owned_after p m h =
      let own = i.owned p m h in
      (own.0, own.1, ⊎_elim (λ (e : block_of c p ≡ m.subscriber). Memᴰ.head e) (λ (l : Memᴰ (block_of c p) (further_of s m.subscriber)). Memᴰ.tail (more_blocks m.subscriber (block_of c p) l)) (Memᴰ.cases_cons own.2))

  listed_after : (k x : ℕ) → get_or (set s.holders b (Some n)) x None ≡ Some k → Memᴰ x (further_of (with_block n b s) k)
  listed_after k x e = ⊎_elim
      (λ (h : x ≡ b).
      let same : n ≡ k = same_some (sym now_held.0 ∙ ap (λ y. get_or (set s.holders b (Some n)) y None) (sym h) ∙ e) in
      subst (λ y. Memᴰ x (further_of (with_block n b s) y)) same (Memᴰ.cast h given_among))
      (λ (ne : x ≡ b → ⊥). more_blocks k x (i.listed k x (sym (get_or-set_other s.holders b x (Some n) None ne) ∙ e)))
      (cases_eq x b)

  most_after : (k : ℕ) → length (further_of (with_block n b s) k) ≤ c.further
  most_after k = ⊎_elim
      (λ (e : k ≡ n). let longer = ap length (ap (further_of (with_block n b s)) e ∙ given_list) ∙ length_push (further_of s n) b in omega (arith, new.fewer))
      (λ (ne : k ≡ n → ⊥). subst (λ ys. length ys ≤ c.further) (sym (other_list k ne)) (i.most k))
      (cases_eq k n)

  block_sound : Sound c (with_block n b s)
  block_sound = record {
    lists = length-set s.further n (further_of s n ++ b ∷ []) ∙ i.lists;
    blocks = length-set s.holders b (Some n) ∙ i.blocks;
    owned = owned_after;
    held = held_after;
    listed = listed_after;
    most = most_after;
    rests = i.rests;
    face = i.face;
  }

-- the lowest port of a block lies in it
pub lowest_in : (c : Config) → Good c → (b : ℕ) → (lowest_port ≤ port_of c b 0) × (block_of c (port_of c b 0) ≡ b)
lowest_in c g b = in_block c g b (port_of c b 0) (range_has (port_of c b 0) c.size (port_of c b 0) (omega arith) (omega (arith, g.some)))

gives_sound : (c : Config) → Good c → (s : State) → Sound c s → (o : Outward) (b : ℕ) → Faceless c s o → next_block c s o.subscriber ≡ Some b →
    Sound c (counted (put s.slots (port_of c b 0) (Some (made s.tick o))) (with_block o.subscriber b s))
gives_sound c g s i o b f e =
    let n = o.subscriber in
    let new = next_known c g s n b e in
    let at = lowest_in c g b in
    put_sound c (with_block n b s) (block_sound c s i n b f.one new) (port_of c b 0) (made s.tick o) f.one at.0
    (Memᴰ.tail (Memᴰ.cast at.1 (given_among c s i n b f.one new))) (fresh_lives c s.tick) (made_alone c g s i o f (port_of c b 0))

-- what a tick leaves of a slot
pub left_known : (c : Config) (t : ℕ) (v : Option Mapping) (m : Mapping) → left_of c t v ≡ Some m → (v ≡ Some m) × (live_or_resting c t m ≡ true)
left_known c t None m e = none_not_some e
left_known c t (Some x) m e = go (live_or_resting c t x) refl e
  where
    go : (b : Bool) → live_or_resting c t x ≡ b → cond b (Some x) None ≡ Some m → (Some x ≡ Some m) × (live_or_resting c t m ≡ true)
    go true h k = (k, subst (λ y. live_or_resting c t y ≡ true) (same_some k) h)
    go false h k = none_not_some k

pub kept_has : (f : ℕ → Bool) (xs : List ℕ) (x : ℕ) → Memᴰ x xs → f x ≡ true → Memᴰ x (filter f xs)
kept_has f [] x i h = elim i [ ]
kept_has f (y ∷ ys) x i h = go (kept_has f ys x) (f y) refl (Memᴰ.cases_cons i)
  where
    go : (Memᴰ x ys → f x ≡ true → Memᴰ x (filter f ys)) → (b : Bool) → f y ≡ b → (x ≡ y) ⊎ Memᴰ x ys → Memᴰ x (cond b (y ∷ filter f ys) (filter f ys))
    go later true k (inl e) = Memᴰ.head e
    go later true k (inr j) = Memᴰ.tail (later j h)
    go later false k (inl e) = true_not_false (sym h ∙ ap f e ∙ k)
    go later false k (inr j) = later j h

pub has_kept : (f : ℕ → Bool) (xs : List ℕ) (x : ℕ) → Memᴰ x (filter f xs) → Memᴰ x xs × (f x ≡ true)
has_kept f [] x i = elim i [ ]
has_kept f (y ∷ ys) x i = go (has_kept f ys x) (f y) refl i
  where
    go : (Memᴰ x (filter f ys) → Memᴰ x ys × (f x ≡ true)) → (b : Bool) → f y ≡ b → Memᴰ x (cond b (y ∷ filter f ys) (filter f ys)) → Memᴰ x (y ∷ ys) × (f x ≡ true)
    go later true k j = ⊎_elim (λ (e : x ≡ y). (Memᴰ.head e, ap f e ∙ k)) (λ (l : Memᴰ x (filter f ys)). (Memᴰ.tail (later l).0, (later l).1)) (Memᴰ.cases_cons j)
    go later false k j = (Memᴰ.tail (later j).0, (later j).1)

kept_fewer : (f : ℕ → Bool) (xs : List ℕ) → length (filter f xs) ≤ length xs
kept_fewer f [] = omega arith
kept_fewer f (x ∷ xs) = go (f x) (kept_fewer f xs)
  where
    go : (b : Bool) → length (filter f xs) ≤ length xs → length (cond b (x ∷ filter f xs) (filter f xs)) ≤ suc (length xs)
    go true h = omega arith
    go false h = omega arith

pub list_kept : (f : ℕ → Bool) (xss : List (List ℕ)) (n : ℕ) → get_or (map (filter f) xss) n [] ≡ filter f (get_or xss n [])
list_kept f [] n = refl
list_kept f (xs ∷ xss) zero = refl
list_kept f (xs ∷ xss) (suc n) = list_kept f xss n

either_none : (b : Bool) → ◌≡◌ {A = Option ℕ} None (cond b None None)
either_none true = refl
either_none false = refl

-- what a tick leaves of a block's holder
pub holder_left_lem : (c : Config) (slots : ℕ → Option Mapping) (a : ℕ) (hs : List (Option ℕ)) (k : ℕ) → get_or (holders_left c slots a hs) k None ≡ cond (is_used c slots (a + k)) (get_or hs k None) None
unfolding holders_left
holder_left_lem c slots a [] k = either_none (is_used c slots (a + k))
holder_left_lem c slots a (None ∷ hs) zero = either_none (is_used c slots (a + 0))
holder_left_lem c slots a (Some n ∷ hs) zero = ap (λ b. cond (is_used c slots b) (Some n) None) (sym (add-zero a))
holder_left_lem c slots a (None ∷ hs) (suc k) = holder_left_lem c slots (suc a) hs k ∙ ap (λ b. cond (is_used c slots b) (get_or hs k None) None) (suc-add a k ∙ sym (add-suc a k))
holder_left_lem c slots a (Some n ∷ hs) (suc k) = holder_left_lem c slots (suc a) hs k ∙ ap (λ b. cond (is_used c slots b) (get_or hs k None) None) (suc-add a k ∙ sym (add-suc a k))

-- a block that has a holder after a tick is a used one, and had that holder before
pub holder_stays : (c : Config) (slots : ℕ → Option Mapping) (hs : List (Option ℕ)) (n b : ℕ) → get_or (holders_left c slots 0 hs) b None ≡ Some n → (is_used c slots b ≡ true) × (get_or hs b None ≡ Some n)
holder_stays c slots hs n b e = go (is_used c slots b) refl (sym (ap (λ y. cond (is_used c slots y) (get_or hs b None) None) (zero-add b)) ∙ sym (holder_left_lem c slots 0 hs b) ∙ e)
  where
    go : (t : Bool) → is_used c slots b ≡ t → cond t (get_or hs b None) None ≡ Some n → (is_used c slots b ≡ true) × (get_or hs b None ≡ Some n)
    go true h k = (h, k)
    go false h k = none_not_some k

pub holders_length : (c : Config) (slots : ℕ → Option Mapping) (a : ℕ) (hs : List (Option ℕ)) → length (holders_left c slots a hs) ≡ length hs
unfolding holders_left
holders_length c slots a [] = refl
holders_length c slots a (None ∷ hs) = ap suc (holders_length c slots (suc a) hs)
holders_length c slots a (Some n ∷ hs) = ap suc (holders_length c slots (suc a) hs)

-- a port that has a mapping makes its block a used one
pub used_by : (c : Config) → Good c → (slots : ℕ → Option Mapping) (p : ℕ) (m : Mapping) → lowest_port ≤ p → slots p ≡ Some m → is_used c slots (block_of c p) ≡ true
used_by c g slots p m low e = go (first (is_taken slots) (block_ports c (block_of c p))) refl
  where
    go : (o : Option ℕ) → first (is_taken slots) (block_ports c (block_of c p)) ≡ o → is_some o ≡ true
    go None k = true_not_false (sym (ap is_some e) ∙ first_none (is_taken slots) (block_ports c (block_of c p)) k p (block_has c g p low))
    go (Some q) k = refl

-- the tick rises
module _ (c : Config) (g : Good c) (s : State) (i : Sound c s) where
  abbrev slots_then : ℕ → Option Mapping
  slots_then = left_at c (s.tick + 1) s.slots

  was : (p : ℕ) (m : Mapping) → slots_then p ≡ Some m → (s.slots p ≡ Some m) × (live_or_resting c (s.tick + 1) m ≡ true)
  was p m e = left_known c (s.tick + 1) (s.slots p) m e

  tick_owned : (p : ℕ) (m : Mapping) → slots_then p ≡ Some m → (m.subscriber < c.subscribers) × (lowest_port ≤ p) × Memᴰ (block_of c p) (blocks_for (ticked c s).state m.subscriber)
  tick_owned p m e =
      let own = i.owned p m (was p m e).0 in
      let used : is_used c slots_then (block_of c p) ≡ true = used_by c g slots_then p m own.1 e in (
        own.0,
        own.1,
        ⊎_elim (λ (h : block_of c p ≡ m.subscriber). Memᴰ.head h)
            (λ (l : Memᴰ (block_of c p) (further_of s m.subscriber)). Memᴰ.tail
            (subst (λ ys. Memᴰ (block_of c p) ys) (sym (list_kept (is_used c slots_then) s.further m.subscriber)) (kept_has (is_used c slots_then) (further_of s m.subscriber) (block_of c p) l used)))
            (Memᴰ.cases_cons own.2),
      )

  tick_held : (n b : ℕ) → Memᴰ b (further_of (ticked c s).state n) → (get_or (holders_left c slots_then 0 s.holders) b None ≡ Some n) × (c.subscribers ≤ b)
  tick_held n b j =
      let k = has_kept (is_used c slots_then) (further_of s n) b (subst (λ ys. Memᴰ b ys) (list_kept (is_used c slots_then) s.further n) j) in
      let h = i.held n b k.0 in
      (holder_left_lem c slots_then 0 s.holders b ∙ ap (λ y. cond (is_used c slots_then y) (get_or s.holders b None) None) (zero-add b) ∙ ap (λ y. cond y (get_or s.holders b None) None) k.1 ∙ h.0, h.1)

  tick_listed : (n b : ℕ) → get_or (holders_left c slots_then 0 s.holders) b None ≡ Some n → Memᴰ b (further_of (ticked c s).state n)
  tick_listed n b e =
      let h = holder_stays c slots_then s.holders n b e in
      subst (λ ys. Memᴰ b ys) (sym (list_kept (is_used c slots_then) s.further n)) (kept_has (is_used c slots_then) (further_of s n) b (i.listed n b h.1) h.0)

  tick_most : (n : ℕ) → length (further_of (ticked c s).state n) ≤ c.further
  tick_most n =
      let fewer : length (further_of (ticked c s).state n) ≤ length (further_of s n) =
      subst (λ ys. length ys ≤ length (further_of s n)) (sym (list_kept (is_used c slots_then) s.further n)) (kept_fewer (is_used c slots_then) (further_of s n)) in
      omega (arith, i.most n)

  lived : (m : Mapping) → live c (s.tick + 1) m ≡ true → live c s.tick m ≡ true
  lived m e = le-leb s.tick (m.last + c.life) (omega (arith, leb-true (s.tick + 1) (m.last + c.life) e))

  tick_sound : Sound c (ticked c s).state
  tick_sound = record {
    lists = length-map s.further (filter (is_used c slots_then)) ∙ i.lists;
    blocks = holders_length c slots_then 0 s.holders ∙ i.blocks;
    owned = tick_owned;
    held = tick_held;
    listed = tick_listed;
    most = tick_most;
    rests = λ p m e. (was p m e).1;
    face = λ p q m n e f l k same. i.face p q m n (was p m e).0 (was q n f).0 (lived m l) (lived n k) same;
  }

pub step_sound : (c : Config) → Good c → (s : State) → Sound c s → {e : Event} {r : Step} → Shape c s e r → Sound c r.state
step_sound c g s i (refuses r) = counted_sound c s i
step_sound c g s i stops = ended_sound c s i
step_sound c g s i (delivers j m a k) = counted_sound c s i
step_sound c g s i (errs o p m a f k) = counted_sound c s i
step_sound c g s i (again o p m a f) = again_sound c g s i o p m f
step_sound c g s i (makes o p f e) = makes_sound c g s i o p f e
step_sound c g s i (gives o b f a e) = gives_sound c g s i o b f e
step_sound c g s i (ticks a) = tick_sound c g s i

pub nobody_there : (n b : ℕ) → get_or {A = Option ℕ} (replicate n None) b None ≡ None
nobody_there zero b = refl
nobody_there (suc n) zero = refl
nobody_there (suc n) (suc b) = nobody_there n b

pub none_there : (n k : ℕ) → get_or {A = List ℕ} (replicate n []) k [] ≡ []
none_there zero k = refl
none_there (suc n) zero = refl
none_there (suc n) (suc k) = none_there n k

pub fresh_sound : (c : Config) → Sound c (fresh c)
fresh_sound c = record {
  lists = length-replicate c.subscribers [];
  blocks = length-replicate (blocks_of c) None;
  owned = λ p m e. none_not_some e;
  held = λ n b j. go n b (subst (λ ys. Memᴰ b ys) (none_there c.subscribers n) j);
  listed = λ n b e. none_not_some (sym (nobody_there (blocks_of c) b) ∙ e);
  most = λ n. subst (λ ys. length ys ≤ c.further) (sym (none_there c.subscribers n)) (omega arith);
  rests = λ p m e. none_not_some e;
  face = λ p q m n e f l k same. none_not_some e;
}
  where
    go : (n b : ℕ) → Memᴰ {A = ℕ} b [] → (get_or (fresh c).holders b None ≡ Some n) × (c.subscribers ≤ b)
    go n b j = elim j [ ]

pub run_sound : (c : Config) → Good c → (s : State) → Sound c s → (es : List Event) → Sound c (state_after c s es)
unfolding state_after
run_sound c g s i [] = i
run_sound c g s i (e ∷ es) = run_sound c g (step c e s).state (step_sound c g s i (shape c e s)) es
