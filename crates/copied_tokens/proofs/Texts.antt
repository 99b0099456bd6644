-- Two tokens of the lines of a file that stand at one place are one.
use Rattle.std.proofs.Common.{◌≡◌, ℕ, ◌<◌, ◌≤◌, List, length, ap, sym, subst, arith}
use Rattle.text_edits.specs.Span.{PlainSpan}
use Rattle.c_text.specs.Lines.{PlainLine, AreItsLines}
use Rattle.renamed_units.proofs.Tokens.{In, in-of, Entry, entry, entries, entry-of, EntriesRise, entries-rise, own-in, Apart, same, ahead, behind, apart}
use Rattle.copied_tokens.specs.Laws.{PlacesTellTokens}

one-entry : (number : ℕ) (bytes : List ℕ) (lines : List PlainLine) → AreItsLines number bytes lines → (d e : Entry) → In d (entries lines) → In e (entries lines) → d.token.origin.span ≡ e.token.origin.span → d ≡ e
one-entry number bytes lines are d e i j span = by (apart number (length bytes) 0 (entries lines) d e rise i j)
  where
    rise : EntriesRise number (length bytes) 0 (entries lines)
    rise = entries-rise number bytes lines are

    some : d.token.origin.span.start < d.token.origin.span.end
    some = (own-in number (length bytes) 0 (entries lines) d rise i).own.some

    by : Apart number (length bytes) d e → d ≡ e
    by (same is) = is
    by (ahead is) = let less : d.token.origin.span.end ≤ d.token.origin.span.start = subst (λ (s : PlainSpan). d.token.origin.span.end ≤ s.start) (sym span) is in absurd (omega (arith, less, some))
    by (behind is) = let less : d.token.origin.span.end ≤ d.token.origin.span.start = subst (λ (s : PlainSpan). s.end ≤ d.token.origin.span.start) (sym span) is in absurd (omega (arith, less, some))

pub places-tell : PlacesTellTokens
places-tell number bytes lines line other a b are among within there inside span =
    ap (λ (e : Entry). e.token)
    (one-entry number bytes lines are (entry line.directive a) (entry other.directive b)
    (entry-of line a lines (in-of line lines among) (in-of a line.tokens within))
    (entry-of other b lines (in-of other lines there) (in-of b other.tokens inside)) span)
