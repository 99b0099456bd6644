use Rattle.std.proofs.Common.{◌≡◌, ◌+◌, ◌++◌, length, vec_len, ◌∙◌, ap, arith, length-append}
use Rattle.project_store.specs.declared.packed.Entry.{Entry}
use Rattle.project_store.specs.Packed.{files_at, IsWithin}
use Rattle.project_store.proofs.PackedLemmas.{files_at-append, files_at-added, All-within-more, All-pushed, on_err}
use Rattle.project_store.proofs.packed.PackedFiles.add.Goals as goal

pub returns-in_err-content-clause-err : goal.returns-in_err-content-clause-err
returns-in_err-content-clause-err c =
    let self = c.args.self.now in
    let within = All-within-more _ (length self.buffer.items) self.entries.items (omega (arith, self.buffer.ok.0)) self.within in
    let same : files_at c.append-2.new.buffer.items self.entries.items ≡ files_at self.buffer.items self.entries.items = rw (c.in_err-content.ensures.err, c.in_ok-name.ensures.ok) (files_at-append self.buffer.items c.as_bytes.result.now self.entries.items within) in
    on_err _ same

pub invariant_of-self-2 : goal.invariant_of-self-2
invariant_of-self-2 c =
    let self = c.args.self.now in
    let entry : Entry = record { name = c.in_ok-name.name; content = c.in_ok-content.content } in
    let first = c.append.new.buffer in
    let second = c.append-2.new.buffer in
    let long_first : length first.items ≡ length self.buffer.items + length c.as_bytes.result.now = ap length c.in_ok-name.ensures.ok ∙ length-append self.buffer.items c.as_bytes.result.now in
    let long_second : length second.items ≡ length first.items + length c.args.bytes.now = ap length c.in_ok-content.ensures.ok ∙ length-append first.items c.args.bytes.now in
    let within = All-within-more _ (vec_len second) self.entries.items (omega (arith, self.buffer.ok.0, second.ok.0)) self.within in
    let fits : IsWithin (vec_len second) entry = record {
      name = record { ordered = omega (arith, c.in_ok-name.ensures.start, c.in_ok-name.ensures.end); within = omega (arith, c.in_ok-name.ensures.end, second.ok.0) };
      content = record { ordered = omega (arith, c.in_ok-content.ensures.start, c.in_ok-content.ensures.end); within = omega (arith, c.in_ok-content.ensures.end, second.ok.0) };
    } in
    record { within = rw c.push.ensures.items (All-pushed (IsWithin (vec_len second)) _ self.entries.items entry within fits) }

pub returns-in_err-push-clause-err : goal.returns-in_err-push-clause-err
returns-in_err-push-clause-err c =
    let self = c.args.self.now in
    let name = c.as_bytes.result.now in
    let within = All-within-more _ (length self.buffer.items) self.entries.items (omega (arith, self.buffer.ok.0)) self.within in
    let within_more = All-within-more (length self.buffer.items) (length (self.buffer.items ++ name)) self.entries.items (omega (arith, length-append self.buffer.items name)) within in
    let same : files_at c.append-2.new.buffer.items c.push.new.self.items ≡ files_at self.buffer.items self.entries.items = rw (c.in_err-push.ensures.items, c.in_ok-content.ensures.ok, c.in_ok-name.ensures.ok) (files_at-append (self.buffer.items ++ name) c.args.bytes.now self.entries.items within_more ∙ files_at-append self.buffer.items name self.entries.items within) in
    on_err _ same

pub returns-clause-ok : goal.returns-clause-ok
returns-clause-ok c =
    let self = c.args.self.now in
    let name = c.as_bytes.result.now in
    let entry : Entry = record { name = c.in_ok-name.name; content = c.in_ok-content.content } in
    let within = All-within-more _ (length self.buffer.items) self.entries.items (omega (arith, self.buffer.ok.0)) self.within in
    let long : length c.append.new.buffer.items ≡ length self.buffer.items + length name = ap length c.in_ok-name.ensures.ok ∙ length-append self.buffer.items name in
    let added = files_at-added self.buffer.items name c.args.bytes.now self.entries.items entry within c.in_ok-name.ensures.start c.in_ok-name.ensures.end (omega (arith, c.in_ok-content.ensures.start)) (omega (arith, c.in_ok-content.ensures.end)) in
    rw (c.in_ok-push.ensures.items, c.in_ok-content.ensures.ok, c.in_ok-name.ensures.ok, ← c.as_bytes.ensures.value) added
