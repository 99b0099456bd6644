use Rattle.std.proofs.Common.{map}
use Rattle.std.specs.String.{string_bytes}
use Rattle.command_promises.specs.Commands.{CourseOf}
use Rattle.command_promises.proofs.Promising.{promises_of, usage_statuses}
use Rattle.command_outcomes.proofs.Courses.{over_store}
use Rattle.morpheus_top.specs.declared.commands.Which.TheVariants.{Quick, Admit, Tokens, Run, Check, Rename}
use Rattle.morpheus_top.specs.Commands.{commands}
use Rattle.morpheus_top.proofs.Table.{apart, all_decided, whole}
use Rattle.morpheus_top.proofs.Table.{behaves, keeps_products}
use Rattle.morpheus_top.proofs.top.morpheus.Goals as goal

pub returns-clause-all : goal.returns-clause-all
returns-clause-all g c =
    let S = g.S.Store in
    let K = g.K.Sink in
    let words = map string_bytes c.args.words.now in
    whole (S.state c.args.store.now) (S.state c.serve.new.store) (K.state c.args.out.now) (K.state c.serve.new.out) c.serve.result words (all_decided c.quick_is_decided.ensures c.admit_is_decided.ensures c.tokens_are_decided.ensures c.run_is_decided.ensures c.check_is_decided.ensures c.rename_is_decided.ensures) c.serve.ensures

pub returns-clause-concludes : goal.returns-clause-concludes
returns-clause-concludes g c =
    let S = g.S.Store in
    let words = map string_bytes c.args.words.now in
    let store = S.state c.args.store.now in
    over_store (CourseOf commands words) store (c.calls_conclude.ensures c.args.alloc words store.file)

pub returns-clause-usage : goal.returns-clause-usage
returns-clause-usage g c =
    let S = g.S.Store in
    let K = g.K.Sink in
    let words = map string_bytes c.args.words.now in
    λ none. usage_statuses commands words none (S.state c.args.store.now) (S.state c.serve.new.store) (K.state c.args.out.now) (K.state c.serve.new.out) c.serve.result c.serve.ensures

pub returns-clause-read_fault : goal.returns-clause-read_fault
returns-clause-read_fault g c =
    let S = g.S.Store in
    let K = g.K.Sink in
    let words = map string_bytes c.args.words.now in
    λ is. ((whole (S.state c.args.store.now) (S.state c.serve.new.store) (K.state c.args.out.now) (K.state c.serve.new.out) c.serve.result words (all_decided c.quick_is_decided.ensures c.admit_is_decided.ensures c.tokens_are_decided.ensures c.run_is_decided.ensures c.check_is_decided.ensures c.rename_is_decided.ensures) c.serve.ensures).read_fault is).is_unread.rose

pub returns-clause-write_fault : goal.returns-clause-write_fault
returns-clause-write_fault g c =
    let S = g.S.Store in
    let K = g.K.Sink in
    let words = map string_bytes c.args.words.now in
    λ is. ((whole (S.state c.args.store.now) (S.state c.serve.new.store) (K.state c.args.out.now) (K.state c.serve.new.out) c.serve.result words (all_decided c.quick_is_decided.ensures c.admit_is_decided.ensures c.tokens_are_decided.ensures c.run_is_decided.ensures c.check_is_decided.ensures c.rename_is_decided.ensures) c.serve.ensures).write_fault is).is_unwritten.rose

pub returns-clause-sink_fault : goal.returns-clause-sink_fault
returns-clause-sink_fault g c =
    let S = g.S.Store in
    let K = g.K.Sink in
    let words = map string_bytes c.args.words.now in
    λ is. ((whole (S.state c.args.store.now) (S.state c.serve.new.store) (K.state c.args.out.now) (K.state c.serve.new.out) c.serve.result words (all_decided c.quick_is_decided.ensures c.admit_is_decided.ensures c.tokens_are_decided.ensures c.run_is_decided.ensures c.check_is_decided.ensures c.rename_is_decided.ensures) c.serve.ensures).sink_fault is).breaks_off.rose

pub returns-clause-untouched : goal.returns-clause-untouched
returns-clause-untouched g c =
    let S = g.S.Store in
    let K = g.K.Sink in
    let words = map string_bytes c.args.words.now in
    (whole (S.state c.args.store.now) (S.state c.serve.new.store) (K.state c.args.out.now) (K.state c.serve.new.out) c.serve.result words (all_decided c.quick_is_decided.ensures c.admit_is_decided.ensures c.tokens_are_decided.ensures c.run_is_decided.ensures c.check_is_decided.ensures c.rename_is_decided.ensures) c.serve.ensures).untouched

pub returns-clause-quick : goal.returns-clause-quick
returns-clause-quick g c =
    let S = g.S.Store in
    let K = g.K.Sink in
    let words = map string_bytes c.args.words.now in
    promises_of commands (all_decided c.quick_is_decided.ensures c.admit_is_decided.ensures c.tokens_are_decided.ensures c.run_is_decided.ensures c.check_is_decided.ensures c.rename_is_decided.ensures) apart words (S.state c.args.store.now) (S.state c.serve.new.store) (K.state c.args.out.now) (K.state c.serve.new.out) c.serve.result c.serve.ensures Quick

pub returns-clause-admit : goal.returns-clause-admit
returns-clause-admit g c =
    let S = g.S.Store in
    let K = g.K.Sink in
    let words = map string_bytes c.args.words.now in
    promises_of commands (all_decided c.quick_is_decided.ensures c.admit_is_decided.ensures c.tokens_are_decided.ensures c.run_is_decided.ensures c.check_is_decided.ensures c.rename_is_decided.ensures) apart words (S.state c.args.store.now) (S.state c.serve.new.store) (K.state c.args.out.now) (K.state c.serve.new.out) c.serve.result c.serve.ensures Admit

pub returns-clause-tokens : goal.returns-clause-tokens
returns-clause-tokens g c =
    let S = g.S.Store in
    let K = g.K.Sink in
    let words = map string_bytes c.args.words.now in
    promises_of commands (all_decided c.quick_is_decided.ensures c.admit_is_decided.ensures c.tokens_are_decided.ensures c.run_is_decided.ensures c.check_is_decided.ensures c.rename_is_decided.ensures) apart words (S.state c.args.store.now) (S.state c.serve.new.store) (K.state c.args.out.now) (K.state c.serve.new.out) c.serve.result c.serve.ensures Tokens

pub returns-clause-run : goal.returns-clause-run
returns-clause-run g c =
    let S = g.S.Store in
    let K = g.K.Sink in
    let words = map string_bytes c.args.words.now in
    promises_of commands (all_decided c.quick_is_decided.ensures c.admit_is_decided.ensures c.tokens_are_decided.ensures c.run_is_decided.ensures c.check_is_decided.ensures c.rename_is_decided.ensures) apart words (S.state c.args.store.now) (S.state c.serve.new.store) (K.state c.args.out.now) (K.state c.serve.new.out) c.serve.result c.serve.ensures Run

pub returns-clause-check : goal.returns-clause-check
returns-clause-check g c =
    let S = g.S.Store in
    let K = g.K.Sink in
    let words = map string_bytes c.args.words.now in
    promises_of commands (all_decided c.quick_is_decided.ensures c.admit_is_decided.ensures c.tokens_are_decided.ensures c.run_is_decided.ensures c.check_is_decided.ensures c.rename_is_decided.ensures) apart words (S.state c.args.store.now) (S.state c.serve.new.store) (K.state c.args.out.now) (K.state c.serve.new.out) c.serve.result c.serve.ensures Check

pub returns-clause-rename : goal.returns-clause-rename
returns-clause-rename g c =
    let S = g.S.Store in
    let K = g.K.Sink in
    let words = map string_bytes c.args.words.now in
    promises_of commands (all_decided c.quick_is_decided.ensures c.admit_is_decided.ensures c.tokens_are_decided.ensures c.run_is_decided.ensures c.check_is_decided.ensures c.rename_is_decided.ensures) apart words (S.state c.args.store.now) (S.state c.serve.new.store) (K.state c.args.out.now) (K.state c.serve.new.out) c.serve.result c.serve.ensures Rename

pub returns-clause-behaviour : goal.returns-clause-behaviour
returns-clause-behaviour g c =
    let S = g.S.Store in
    let K = g.K.Sink in
    let words = map string_bytes c.args.words.now in
    λ zero_is t r asked.
    behaves c.renaming_keeps_behaviour.ensures words r asked (S.state c.args.store.now) (S.state c.serve.new.store) (K.state c.args.out.now) (K.state c.serve.new.out) c.serve.result t zero_is
    (promises_of commands (all_decided c.quick_is_decided.ensures c.admit_is_decided.ensures c.tokens_are_decided.ensures c.run_is_decided.ensures c.check_is_decided.ensures c.rename_is_decided.ensures) apart words (S.state c.args.store.now) (S.state c.serve.new.store) (K.state c.args.out.now) (K.state c.serve.new.out) c.serve.result c.serve.ensures Quick r asked)

pub returns-clause-products : goal.returns-clause-products
returns-clause-products g c =
    let S = g.S.Store in
    let K = g.K.Sink in
    let words = map string_bytes c.args.words.now in
    λ zero_is t q asked.
    keeps_products c.renamings_that_are_written_keep_products.ensures words q asked (S.state c.args.store.now) (S.state c.serve.new.store) (K.state c.args.out.now) (K.state c.serve.new.out) c.serve.result t zero_is
    (promises_of commands (all_decided c.quick_is_decided.ensures c.admit_is_decided.ensures c.tokens_are_decided.ensures c.run_is_decided.ensures c.check_is_decided.ensures c.rename_is_decided.ensures) apart words (S.state c.args.store.now) (S.state c.serve.new.store) (K.state c.args.out.now) (K.state c.serve.new.out) c.serve.result c.serve.ensures Rename q asked)
