-- This crate's refusals as definitions see them.
use Rattle.text_edits.specs.Span.{plain_span}
use Rattle.c_text.specs.declared.origin.FileToken.{FileToken}
use Rattle.c_text.specs.declared.token.BadKind.TheVariants as bad
use Rattle.c_text.specs.Preprocessing as spec
use Rattle.unit_files.specs.declared.refusals.PpKind.{PpKind}
use Rattle.unit_files.specs.declared.refusals.PpKind.TheVariants.{BadByte, OpenComment, OpenQuote, OutOfProfile, Unbalanced, BadDirective, BadExpression, NoFile, IncludeDepth, BadMacro, BadCall, ErrorDirective, Predefined}
use Rattle.unit_files.specs.declared.refusals.Refusal.{Refusal}

abbrev pub kind_view : PpKind → spec.Kind
kind_view BadByte = spec.bad_token bad.BadByte
kind_view OpenComment = spec.bad_token bad.OpenComment
kind_view OpenQuote = spec.bad_token bad.OpenQuote
kind_view OutOfProfile = spec.bad_token bad.OutOfProfile
kind_view Unbalanced = spec.unbalanced
kind_view BadDirective = spec.bad_directive
kind_view BadExpression = spec.bad_expression
kind_view NoFile = spec.no_file
kind_view IncludeDepth = spec.include_depth
kind_view BadMacro = spec.bad_macro
kind_view BadCall = spec.bad_call_kind
kind_view ErrorDirective = spec.error_directive
kind_view Predefined = spec.predefined

-- a refusal of this kind at this token
abbrev pub refusal_view : PpKind → FileToken → spec.Refusal
refusal_view kind at = record { kind = kind_view kind; file = at.file; span = plain_span at.span }

abbrev pub plain_refusal : Refusal → spec.Refusal
plain_refusal r = refusal_view r.kind r.at
