-- The law, the contract of a function of this crate.
use Rattle.std.specs.Prelude.{◌≡◌, ℕ, true, List}
use Rattle.c_text.specs.Lines.{PlainLine, AreItsLines}
use Rattle.quick_form.specs.Symbols.{symbols_of}
use Rattle.quick_lines.specs.SpelledLines.{are_spaced, SpellLines}

-- the lines of a text, where its symbols keep apart, spell its symbols
abbrev pub TextsAreSpelled : Type 0
TextsAreSpelled =
    (file : ℕ) (text : List ℕ) → are_spaced (symbols_of text) ≡ true
    → (lines : List PlainLine) × AreItsLines file text lines × SpellLines lines (symbols_of text)
