use Rattle.std.specs.Prelude.{ℕ, ◌<◌, ◌≤◌}
use Rattle.text_edits.specs.declared.span.Span.{Span}

-- a span as definitions write it: from its first byte to before its end
pub record PlainSpan : Type 0 where
  pub start : ℕ
  pub end : ℕ

-- the two offsets of a span
abbrev pub plain_span : Span → PlainSpan
plain_span s = record { start = s.start; end = s.end }

-- the byte at this offset is one of the span's
abbrev pub Covers : Span → ℕ → Type 0
Covers s at = (s.start ≤ at) × (at < s.end)
