use Rattle.quick_form.proofs.LexingItems.{renamed_symbols_lem}
use Rattle.quick_form.proofs.renamed_symbols.Goals as goal

pub returns : goal.returns
returns c = renamed_symbols_lem
