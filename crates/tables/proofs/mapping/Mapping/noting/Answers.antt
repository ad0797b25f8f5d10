-- Known, new with room, or new without: the first of the sixteen are what is noted.
use Rattle.std.proofs.Common.{◌≡◌, ℕ, List, ◌∷◌, length, take, sym, ap, ◌∙◌, arith}
use Rattle.mappings.specs.declared.event.Protocol.{Protocol}
use Rattle.mappings.specs.Mappings as mappings
use Rattle.mappings.specs.Mappings.{without}
use Rattle.tables.proofs.Remembering.{noted_known, noted_new, noted_full}
use Rattle.tables.proofs.mapping.Mapping.noting.Goals as goal
use Rattle.tables.proofs.mapping.Mapping.noting.Goals.{then-self-lt16+then-not-remembers, else-self-lt16, else-self-lt16-via-then-self-lt16+else-not-remembers, else-self-lt16-via-else-self-lt16}

-- what the fields of a mapping mean once the address is put first
abbrev after : ℕ → ℕ → ℕ × (Protocol × (ℕ × (ℕ × (List ℕ × (ℕ × Unit {0}))))) → mappings.Mapping
after t a m = record { subscriber = m.0; protocol = m.1.0; port = m.1.1.0; last = t; remembered = take m.1.1.1.1.1.0 (take 16 (a ∷ without a m.1.1.1.1.0)) }

pub returns : goal.returns
returns c =
    let m = c.args.self in
    let n = c.if-self-lt16.self in
    let t = c.args.tick in
    let a = c.args.address in
    let long : length m.addresses ≡ 16 = omega arith in
    let all : c.put_first.new.addresses ≡ take 16 (a ∷ without a n.1.1.1.1.0) = c.put_first.ensures in
    let back : List ℕ → mappings.Mapping = λ xs. record { subscriber = m.subscriber; protocol = m.protocol; port = m.port; last = t; remembered = xs } in
    ap (λ xs. record { subscriber = n.0; protocol = n.1.0; port = n.1.1.0; last = t; remembered = take n.1.1.1.1.1.0 xs }) all
    ∙ elim c.if-self-lt16.branch [
      | then-self-lt16+then-not-remembers w ↦ ap (after t a) w.self-is ∙ ap back (noted_new a m.count m.addresses w.if-self-lt16.true (sym w.remembers.ensures ∙ w.if-not-remembers.true))
      | else-self-lt16 w ↦
          ap (after t a) w.self-is
          ∙ elim w.else-self-lt16.branch [
            | else-self-lt16-via-then-self-lt16+else-not-remembers v ↦
                ap (after t a) v.self-is ∙ ap back (noted_known a m.count m.addresses m.few (sym v.remembers.ensures ∙ v.if-not-remembers.false))
            | else-self-lt16-via-else-self-lt16 v ↦ ap (after t a) v.self-is ∙ ap back (noted_full a m.count m.addresses long v.if-self-lt16.false)
          ]
    ]
