-- The table of the keywords, without pointers.
use Rattle.c_tree.specs.declared.spellings.Spelling.{Spelling}
use Rattle.c_tree.specs.Terminals as terminals

abbrev pub plain_spelling : Spelling → terminals.Spelling
plain_spelling s = terminals.spells s.0.now s.1
