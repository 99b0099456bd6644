-- Judgements that bind an identifier which is no name of file scope.
use Rattle.std.proofs.Common.{◌≡◌, ℕ, suc, Bool, true, false, ◌||◌, List, [], ◌∷◌, length, map, refl, sym, ap}
use Rattle.std.proofs.lemmas.List.{length-map}
use Rattle.std.specs.Prelude.{Option, Some, None}
use Rattle.c_text.specs.Token.{PlainToken}
use Rattle.c_types.specs.Types.{PlainType, pointer_to, structure}
use Rattle.core_meaning.specs.declared.refusals.TypeKind.TheVariants.{Undeclared}
use Rattle.core_meaning.specs.Checking.{Checked, struct_entity, ◌>>=◌}
use Rattle.core_meaning.specs.Linking.{uses_in}
use Rattle.core_meaning.specs.Entities.{Table, Local, Scope}
use Rattle.core_meaning.specs.Declarations.{Based, based_on_tag, with_struct, pointers, with_local_in, with_local}
use Rattle.plain_scope.specs.Blocks.{outer, without_block}
use Rattle.plain_scope.specs.Judgements.{Gives, Binds, RefusedAs, Refuses}
use Rattle.plain_scope.specs.JudgementLaws.{gives_then, refuses_is, refused_then}
use Rattle.plain_scope.specs.declared.errors.ElabError.{ElabError}

pub tag_found : (declaring : Bool) (scope : Scope) (tag : PlainToken) (n : ℕ) (looked_up : Option ℕ) (b : Based) → looked_up ≡ Some n → b ≡ record { ty = structure n; scope = scope } → Binds (based_on_tag declaring scope tag looked_up) b
tag_found declaring scope tag n looked_up b is gives = record {
  bindings = record { entity = struct_entity n; in_expression = false } ∷ [];
  judged = rw is (rw gives refl);
  unused = λ name. refl;
}

pub tag_missing : (scope : Scope) (tag : PlainToken) (looked_up : Option ℕ) (error : ElabError) → looked_up ≡ None → Refuses Undeclared tag error → RefusedAs (based_on_tag false scope tag looked_up) error
tag_missing scope tag looked_up error is r = refuses_is _ Undeclared tag error (rw is refl) r

pub tag_declared : (scope : Scope) (tag : PlainToken) (looked_up : Option ℕ) (b : Based) → looked_up ≡ None → b ≡ record { ty = structure (length scope.structs); scope = with_struct scope tag.text } → Binds (based_on_tag true scope tag looked_up) b
tag_declared scope tag looked_up b is gives = record {
  bindings = record { entity = struct_entity (length scope.structs); in_expression = false } ∷ [];
  judged = rw is (rw gives refl);
  unused = λ name. refl;
}

pub one_more_pointer : (n : ℕ) (ty : PlainType) → pointers (suc n) ty ≡ pointer_to (pointers n ty)
one_more_pointer n ty = refl

pub struct_count : {A B : Type 0} (f : A → B) (structs : List A) → length (map f structs) ≡ length structs
struct_count f structs = length-map structs f

pub ruleset struct_numbers = (struct_count)

outer_local : (blocks : List (Table Local)) (name : List ℕ) (l : Local) → outer (with_local_in blocks name l) ≡ outer blocks
outer_local [] name l = refl
outer_local (block ∷ others) name l = refl

-- a local is visible in its block alone
pub outside_local : (scope : Scope) (name : List ℕ) (slot : ℕ) (ty : PlainType) → without_block (with_local scope name slot ty) ≡ without_block scope
outside_local scope name slot ty = ap (λ b. record scope { blocks = b }) (outer_local scope.blocks name (record { slot = slot; ty = ty }))

or_false : (a b : Bool) → b ≡ false → a ≡ (a || b)
or_false true b e = refl
or_false false b e = sym e

-- the base type binds at most a struct
pub base_gives : {B : Type 0} (c : Checked Based) (next : Based → Checked B) (x : Based) (y : B) (before after : List ℕ → Bool) → Binds c x → Gives (next x) y before after → Gives (c >>= next) y before after
base_gives c next x y before after b g = gives_then c next x y before before after (record { bindings = b.bindings; judged = b.judged; used = λ name. or_false (before name) (uses_in b.bindings name) (b.unused name) }) g

pub base_refused : {B : Type 0} (c : Checked Based) (next : Based → Checked B) (x : Based) (error : ElabError) → Binds c x → RefusedAs (next x) error → RefusedAs (c >>= next) error
base_refused c next x error b r = refused_then c next x b.bindings error b.judged r
