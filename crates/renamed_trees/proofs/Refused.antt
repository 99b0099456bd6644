-- Tokens that have no tree are refused after the renaming as before.
use Rattle.std.proofs.Common.{◌≡◌, ℕ, ◌+◌, ◌<◌, ◌≤◌, List, map, take, Option, Some, None, option_map, All, refl, ap, sym, ◌∙◌, subst}
use Rattle.std.proofs.lemmas.List.{take-map, length-map}
use Rattle.std.proofs.lemmas.List.Elements.{All-take}
use Rattle.c_text.specs.Token.{PlainToken}
use Rattle.c_tree.specs.Trees.{PlainTree}
use Rattle.c_tree.specs.Heights.{most_high}
use Rattle.c_tree.specs.Units.{BeginsUnit, IsUnexpected, IsTooHigh}
use Rattle.c_tree.specs.Machine.{Frame, start, read_on, of_trees}
use Rattle.c_tree.specs.ReadingLaws.{ReadIsSpelt, SpeltIsRead, FrontsBegin, FrontsAreRead, IsRead}
use Rattle.renamings.specs.Renamings.{Renaming, renamed_token}
use Rattle.renamed_trees.specs.RenamedTrees.{renamed_tree}
use Rattle.renamed_trees.specs.Laws.{RefusalsAreKept}
use Rattle.renamed_trees.proofs.Terminals.{IsKept, all_kept}
use Rattle.moved_trees.proofs.Machines.{changed_frames, read_on_changed}
use Rattle.renamed_trees.proofs.Renamed.{spells_renamed, spelled_before, same_height}

-- ---- what begins a unit

module _ (begin : FrontsBegin) (are_read : FrontsAreRead) (r : Renaming) (front : List PlainToken) (kept : All (IsKept r) front) where
  begins_renamed : BeginsUnit front → BeginsUnit (map (renamed_token r) front)
  begins_renamed b =
      let f = are_read front b in
      begin (map (renamed_token r) front) (changed_frames (renamed_token r) f.frames)
      (read_on_changed (renamed_token r) (Some start) front kept ∙ ap (option_map (changed_frames (renamed_token r))) f.reads)

  begins_before : BeginsUnit (map (renamed_token r) front) → BeginsUnit front
  begins_before b = by_state (read_on of_trees (Some start) front) refl (are_read (map (renamed_token r) front) b)
    where
      by_state : (x : Option (List (Frame PlainTree))) → read_on of_trees (Some start) front ≡ x → IsRead (map (renamed_token r) front) → BeginsUnit front
      by_state (Some frames) e f = begin front frames e
      by_state None e f =
          absurd (let is : None ≡ Some f.frames = ap (option_map (changed_frames (renamed_token r))) (sym e) ∙ sym (read_on_changed (renamed_token r) (Some start) front kept) ∙ f.reads in cc)

-- ---- refusals

module _ (read_is_spelt : ReadIsSpelt) (spelt_is_read : SpeltIsRead) (begin : FrontsBegin) (are_read : FrontsAreRead) where
  front_renamed :
      (r : Renaming) (tokens : List PlainToken) (n : ℕ) → All (IsKept r) tokens → BeginsUnit (take n tokens)
      → BeginsUnit (take n (map (renamed_token r) tokens))
  front_renamed r tokens n kept b =
      subst BeginsUnit (sym (take-map (renamed_token r) n tokens))
      (begins_renamed begin are_read r (take n tokens) (All-take (IsKept r) n tokens kept) b)

  front_before :
      (r : Renaming) (tokens : List PlainToken) (n : ℕ) → All (IsKept r) tokens → BeginsUnit (take n (map (renamed_token r) tokens))
      → BeginsUnit (take n tokens)
  front_before r tokens n kept b =
      begins_before begin are_read r (take n tokens) (All-take (IsKept r) n tokens kept)
      (subst BeginsUnit (take-map (renamed_token r) n tokens) b)

  still_unexpected :
      (r : Renaming) (tokens : List PlainToken) (place : ℕ) → All (IsKept r) tokens → IsUnexpected tokens place
      → IsUnexpected (map (renamed_token r) tokens) place
  still_unexpected r tokens place kept u = record {
    within = subst (λ n. place ≤ n) (sym (length-map tokens (renamed_token r))) u.within;
    begins = front_renamed r tokens place kept u.begins;
    whole = λ tree spells. let b = spelled_before read_is_spelt spelt_is_read r tokens kept tree spells in u.whole b.tree b.spells;
    ends = λ below b.
        u.ends (subst (λ n. place < n) (length-map tokens (renamed_token r)) below) (front_before r tokens (place + 1) kept b);
  }

  still_too_high : (r : Renaming) (tokens : List PlainToken) → All (IsKept r) tokens → IsTooHigh tokens → IsTooHigh (map (renamed_token r) tokens)
  still_too_high r tokens kept h = record {
    tree = renamed_tree r h.tree;
    spells = spells_renamed read_is_spelt spelt_is_read r tokens kept h.tree h.spells;
    high = subst (λ n. most_high < n) (sym (same_height read_is_spelt spelt_is_read r tokens kept h.tree h.spells)) h.high;
  }

  pub refusals_kept : RefusalsAreKept
  refusals_kept = record {
    unexpected = λ r tokens place names u. still_unexpected r tokens place (all_kept r tokens names) u;
    too_high = λ r tokens names h. still_too_high r tokens (all_kept r tokens names) h;
  }
