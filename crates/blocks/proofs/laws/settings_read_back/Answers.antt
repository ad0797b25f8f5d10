-- The law stands in its own file.
use Rattle.blocks.proofs.SettingsBack.{settings_read_back}
use Rattle.blocks.proofs.laws.settings_read_back.Goals as goal

pub returns : goal.returns
returns c = settings_read_back
