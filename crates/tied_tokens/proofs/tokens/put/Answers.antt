use Rattle.std.proofs.Common.{◌≡◌, ◌++◌, ◌∷◌, take, drop, sym, ◌∙◌, ap, subst}
use Rattle.std.specs.Prelude.{Contains}
use Rattle.tied_tokens.specs.Tokens.{plain_file_token, plain_file_tokens, AreInOrder}
use Rattle.tied_tokens.specs.Search.{placed}
use Rattle.tied_tokens.proofs.Members.{never}
use Rattle.tied_tokens.proofs.Order.{placed_in_order, placed_members}
use Rattle.tied_tokens.proofs.tokens.put.Goals as goal

pub returns-clause-members : goal.returns-clause-members
returns-clause-members c = λ other. placed_members c.args.token.now c.args.sorted.now.items c.insert.new.self.items c.place_in-place.result other c.in_ok-insert.ensures.items

pub returns-clause-in_order : goal.returns-clause-in_order
returns-clause-in_order c = λ ordered.
    let sorted = c.args.sorted.now.items in
    let token = c.args.token.now in
    let is : c.insert.new.self.items ≡ placed token sorted =
    c.in_ok-insert.ensures.items ∙ (ap (λ xs. take c.place_in-place.result xs ++ token ∷ drop c.place_in-place.result xs) (sym c.deref-2.ensures.value) ∙ (c.place_in-place.ensures.placed ∙ ap (placed token) c.deref-2.ensures.value)) in
    subst (λ xs. AreInOrder (plain_file_tokens xs)) (sym is) (placed_in_order token sorted (λ h. never c.if-is_among.false (c.is_among.ensures.1 (subst (λ xs. Contains (plain_file_tokens xs) (plain_file_token token)) (sym c.deref.ensures.value) h))) ordered)
