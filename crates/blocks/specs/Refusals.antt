-- The number of each cause of a refusal. Every contract that speaks of a refusal uses this definition.
use Rattle.std.specs.Prelude.{ℕ}
use Rattle.blocks.specs.declared.refusal.Refusal.{Refusal}
use Rattle.blocks.specs.declared.refusal.Refusal.TheVariants.{Malformed, BadSettings, BadHeader, WrongSum, UnknownProtocol, NoSubscriber, Expired, NoPort, NoMapping, NotRemembered, UnrelatedError, Exhausted, CannotFollow}

abbrev pub number_of : Refusal → ℕ
number_of Malformed = 1
number_of BadSettings = 2
number_of BadHeader = 3
number_of WrongSum = 4
number_of UnknownProtocol = 5
number_of NoSubscriber = 6
number_of Expired = 7
number_of NoPort = 8
number_of NoMapping = 9
number_of NotRemembered = 10
number_of UnrelatedError = 11
number_of Exhausted = 12
number_of CannotFollow = 13
