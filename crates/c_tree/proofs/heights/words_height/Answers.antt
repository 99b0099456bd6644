use Rattle.std.proofs.Common.{sym}
use Rattle.c_tree.proofs.HeightLemmas.{several-short, several-long}
use Rattle.c_tree.proofs.heights.words_height.Goals as goal

pub returns-then-words-lt2 : goal.returns-then-words-lt2
returns-then-words-lt2 c = sym (several-short c.args.words.now c.if-words-lt2.true)

pub returns-else-words-lt2 : goal.returns-else-words-lt2
returns-else-words-lt2 c = sym (several-long c.args.words.now c.if-words-lt2.false)
