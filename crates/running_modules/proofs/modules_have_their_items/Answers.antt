use Rattle.running_modules.proofs.Items.{modules_have_their_items}
use Rattle.running_modules.proofs.modules_have_their_items.Goals as goal

pub returns : goal.returns
returns c = modules_have_their_items
