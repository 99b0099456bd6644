-- A unit has an outcome.
use Rattle.std.proofs.Common.{◌≡◌, ℕ, zero, suc, ◌≤◌, ℤ, List, length, take, drop, Option, Some, None, refl, ap, sym, ◌∙◌, subst}
use Rattle.std.specs.List.{list_any}
use Rattle.std.specs.Str.{bytes_eq}
use Rattle.c_text.specs.Token.{PlainToken}
use Rattle.c_text.specs.Lines.{PlainLine}
use Rattle.c_text.specs.Trees.{Part}
use Rattle.c_text.specs.Preprocessing.{Refusal, Reading, Source, project_file, stdio, stdlib, Sources, Syntax, IsSyntaxOf, IsFile, setting, source_name, read_part, read_source, most_nested, at_start, file_at, built_in_file, built_in_text, preprocessed, outcome_of}
use Rattle.c_lexer.specs.Laws.{LinesAreOne}
use Rattle.plain_pp.specs.Laws.{ProjectsHaveSyntax}
use Rattle.file_walks.proofs.Spines.{front_of}
use Rattle.file_walks.proofs.Parts.{file-is}
use Rattle.unit_outcomes.specs.Laws.{UnitsHaveOutcomes}
use Rattle.unit_outcomes.proofs.InRange.{IsFound}
use Rattle.unit_outcomes.proofs.SameReadings.{part-same}

-- lines have one part, and break at one place
pub record AreSame (part other : Part) (broken breaks : Refusal) : Type 0 where
  pub parts : part ≡ other
  pub breaks_are : broken ≡ breaks

same-file : (file length : ℕ) (lines others : List PlainLine) (part other : Part) (broken breaks : Refusal) → lines ≡ others → IsFile file length lines part broken → IsFile file length others other breaks → AreSame part other broken breaks
same-file file length lines others part other broken breaks e a b =
    let p = file-is file length lines part broken a in
    let q = file-is file length lines other breaks (subst (λ ls. IsFile file length ls other breaks) (sym e) b) in
    record { parts = ap front_of (sym p.spine ∙ q.spine); breaks_are = p.break_is ∙ sym q.break_is }

module _ (one : LinesAreOne) (s : Sources) (x y : Syntax) (a : IsSyntaxOf s x) (b : IsSyntaxOf s y) (few : length s.headers ≤ length s.files) where
  pub same-value : (tokens : List PlainToken) → x.value_of tokens ≡ y.value_of tokens
  same-value tokens = by (x.value_of tokens) (y.value_of tokens) refl refl
    where
      by : (v w : Option ℤ) → x.value_of tokens ≡ v → y.value_of tokens ≡ w → x.value_of tokens ≡ y.value_of tokens
      by None None e f = e ∙ sym f
      by (Some z) w e f = e ∙ sym ((b.values tokens z).1 ((a.values tokens z).0 e))
      by None (Some z) e f = (a.values tokens z).1 ((b.values tokens z).0 f) ∙ sym f

  pub built-in : a.built_in_lines ≡ b.built_in_lines
  built-in = one built_in_file built_in_text a.built_in_lines b.built_in_lines a.are_built_in b.are_built_in

  pub same-source : (source : Source) → IsFound (length s.files) source → AreSame (x.part_of source) (y.part_of source) (x.broken_in source) (y.broken_in source)
  same-source (project_file number) found =
      same-file number (length (file_at s number).bytes) (a.lines number) (b.lines number) _ _ _ _
      (one number (file_at s number).bytes (a.lines number) (b.lines number) (a.are_lines number found) (b.are_lines number found)) (a.are_files number found) (b.are_files number found)
  same-source stdio found = same-file built_in_file (length built_in_text) (take 5 a.built_in_lines) (take 5 b.built_in_lines) _ _ _ _ (ap (take 5) built-in) a.stdio_is b.stdio_is
  same-source stdlib found = same-file built_in_file (length built_in_text) (drop 5 a.built_in_lines) (drop 5 b.built_in_lines) _ _ _ _ (ap (drop 5) built-in) a.stdlib_is b.stdlib_is

  abbrev pub is_feature : List ℕ → Rattle.std.specs.Prelude.Bool
  is_feature = λ name. list_any (bytes_eq name) s.features

  pub source-same : (n : ℕ) (source : Source) → IsFound (length s.files) source → (r : Reading) → read_source s x n source r ≡ read_source s y n source r
  source-same zero source found r =
      let e = same-source source found in
      part-same x.value_of y.value_of same-value is_feature s.headers (source_name s source) (x.broken_in source) None None (length s.files) few tt (x.part_of source) r
      ∙ ap (λ broken. read_part (record (setting s y source None) { broken = broken }) r (x.part_of source)) e.breaks_are
      ∙ ap (λ part. read_part (setting s y source None) r part) e.parts
  source-same (suc n) source found r =
      let e = same-source source found in
      part-same x.value_of y.value_of same-value is_feature s.headers (source_name s source) (x.broken_in source) (Some (read_source s x n)) (Some (read_source s y n)) (length s.files) few (source-same n) (x.part_of source) r
      ∙ ap (λ broken. read_part (record (setting s y source (Some (read_source s y n))) { broken = broken }) r (x.part_of source)) e.breaks_are
      ∙ ap (λ part. read_part (setting s y source (Some (read_source s y n))) r part) e.parts

pub units-have : LinesAreOne → ProjectsHaveSyntax → UnitsHaveOutcomes
units-have one have s number has =
    let x = have s in (
      outcome_of (preprocessed s x.0 number),
      λ y is. ap outcome_of (source-same one s y x.0 is x.1 has.headers most_nested (project_file number) has.unit (at_start s)),
    )
