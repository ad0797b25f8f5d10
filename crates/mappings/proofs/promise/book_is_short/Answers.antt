-- `promise::book_is_short` meets its contract.
use Rattle.mappings.proofs.Lines.{short_book, two_lines}
use Rattle.mappings.proofs.Order.{in_order}
use Rattle.mappings.proofs.Rested.{taken_rested}
use Rattle.mappings.proofs.promise.book_is_short.Goals as goal

pub returns : goal.returns
returns c = record { lines = short_book; two = two_lines; order = in_order; rested = taken_rested }
