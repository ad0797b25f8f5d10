-- A number holds no separator, so the first separator ends it.
use Rattle.std.proofs.Common.{◌^◌, decimal, arith}
use Rattle.text.specs.Reading.{IsBelow}
use Rattle.text.proofs.Decimal.{no_other}
use Rattle.text.proofs.Separated.{none_before, not_before, read_before}
use Rattle.text.proofs.number.number_before.Goals as goal

pub returns-in_err-front : goal.returns-in_err-front
returns-in_err-front c =
    rw c.from_residual.ensures (none_before decimal (IsBelow (2 ^ 64)) c.args.separator (omega (arith, c.requires)) (λ n small. no_other n c.args.separator small c.requires) c.args.text.now c.in_err-front.ensures.cases)

pub returns-in_err-number : goal.returns-in_err-number
returns-in_err-number c =
    rw c.from_residual-in_err-number.ensures
    (not_before decimal (IsBelow (2 ^ 64)) c.args.separator (omega (arith, c.requires)) (λ n small. no_other n c.args.separator small c.requires) c.args.text.now
    c.in_ok-front.front c.in_ok-front.rest c.in_ok-front.ensures.cases c.in_err-number.ensures)

pub returns : goal.returns
returns c =
    read_before decimal (IsBelow (2 ^ 64)) c.args.separator (omega (arith, c.requires)) (λ n small. no_other n c.args.separator small c.requires) c.args.text.now
    c.in_ok-front.front c.in_ok-front.rest c.in_ok-number.field-0 c.in_ok-front.ensures.cases c.in_ok-number.ensures
