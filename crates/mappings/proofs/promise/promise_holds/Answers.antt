-- `promise::promise_holds` meets its contract.
use Rattle.mappings.proofs.Faces.{one_owner, agreed, one_face, face_used, face_stays}
use Rattle.mappings.proofs.Tracing.{traced, held, lasting}
use Rattle.mappings.proofs.TracingByTick.{traced_by_tick, held_by_tick}
use Rattle.mappings.proofs.Answers.{answered, errors_answered}
use Rattle.mappings.proofs.Lines.{short_book, two_lines}
use Rattle.mappings.proofs.Service.{served, given_in_need, let_in}
use Rattle.mappings.proofs.Quiet.{refusals, inwards_quiet, over, limits}
use Rattle.mappings.proofs.Alone.{alone}
use Rattle.mappings.proofs.InUse.{held_in_use}
use Rattle.mappings.proofs.Order.{in_order}
use Rattle.mappings.proofs.Rested.{taken_rested}
use Rattle.mappings.proofs.Memory.{noted_now, remembered, moves_back}
use Rattle.mappings.proofs.promise.promise_holds.Goals as goal

pub returns : goal.returns
returns c = record {
  one_owner = one_owner;
  agreed = agreed;
  held_in_use = held_in_use;
  one_face = one_face;
  face_used = face_used;
  face_stays = face_stays;
  traced = traced;
  held = held;
  lasting = lasting;
  traced_by_tick = traced_by_tick;
  held_by_tick = held_by_tick;
  answered = answered;
  errors_answered = errors_answered;
  short_book = short_book;
  two_lines = two_lines;
  in_order = in_order;
  taken_rested = taken_rested;
  served = served;
  given_in_need = given_in_need;
  let_in = let_in;
  noted_now = noted_now;
  remembered = remembered;
  moves_back = moves_back;
  refusals = refusals;
  inwards_quiet = inwards_quiet;
  over = over;
  limits = limits;
  alone = alone;
}
