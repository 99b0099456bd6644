-- Preprocessing of one unit in one configuration (ISO/IEC 9899:2011, 6.10): the tokens that it gives, or the first refusal. The
-- definition of the whole is `IsPreprocessed`, in `Units`.
pub mod Refusals
pub mod Flows
pub mod Conditions
pub mod Definitions
pub mod Inclusions
pub mod FileReading
pub mod Units
pub use Rattle.c_text.specs.Preprocessing.Refusals.{Kind, bad_token, unbalanced, bad_directive, bad_expression, no_file, include_depth, bad_macro, bad_call_kind, error_directive, predefined, Refusal, refusal_at, bad_kind, is_open_comment, by_bad, or_else, refused_token, refused_ignored, earlier}
pub use Rattle.c_text.specs.Preprocessing.Flows.{Reading, Flow, on, refused, then_read, unless, emitted, read_run, tokens_of_lines}
pub use Rattle.c_text.specs.Preprocessing.Conditions.{Test, test_of, test_at, digit, tested, with_token, by_test, tests_replaced, Condition, holds, fails, unless_fails, by_value, by_replaced, by_tests, condition_of, defined_condition, line_condition, condition_at}
pub use Rattle.c_text.specs.Preprocessing.Definitions.{meaning, put, same_texts, texts, same_meaning, redefined}
pub use Rattle.c_text.specs.Preprocessing.Inclusions.{Source, project_file, stdio, stdlib, components, further, joined, resolved, folder, place_in, header_at, built_in, or_source, quoted_source, without_ends, source_of}
pub use Rattle.c_text.specs.Preprocessing.FileReading.{Setting, included, directed, read_directive, by_condition, skip, branched, read_part, read_branches}
pub use Rattle.c_text.specs.Preprocessing.Units.{Sources, Syntax, file_at, source_name, setting, read_source, most_nested, built_in_text, built_in_file, feature_token, at_start, preprocessed, span_of_hash, span_of_break, IsFile, IsSyntaxOf, Outcome, gives, is_refused, outcome_of, IsPreprocessed}
