-- The bytes are each number's, one number after the other.
use Rattle.std.proofs.Common.{◌<◌, [], ◌++◌, ap, ◌∙◌, arith}
use Rattle.blocks.specs.Bytes.{bytes_of}
use Rattle.blocks.specs.Settings.{config}
use Rattle.blocks.proofs.BigEndian.{one, two, four}
use Rattle.blocks.proofs.Limits.{limits}
use Rattle.blocks.proofs.settings.Settings.to_bytes.Goals as goal

pub returns : goal.returns
returns c =
    let s = config c.args.self.now in
    let few = (limits s c.args.self.now.limits).more in
    let small : s.further < 256 = omega arith in
    four s.external _ c.to_be_bytes.ensures
    ∙ ap (λ xs. bytes_of 4 s.external ++ xs) (four s.internal _ c.to_be_bytes-2.ensures
    ∙ ap (λ xs. bytes_of 4 s.internal ++ xs) (two s.subscribers _ c.to_be_bytes-3.ensures
    ∙ ap (λ xs. bytes_of 2 s.subscribers ++ xs) (two s.size _ c.to_be_bytes-4.ensures
    ∙ ap (λ xs. bytes_of 2 s.size ++ xs) (one s.further _ small
    ∙ ap (λ xs. bytes_of 1 s.further ++ xs) (two s.life _ c.to_be_bytes-5.ensures
    ∙ ap (λ xs. bytes_of 2 s.life ++ xs) (two s.rest [] c.to_be_bytes-6.ensures))))))
