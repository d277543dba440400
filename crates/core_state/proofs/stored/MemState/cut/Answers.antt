use Rattle.std.proofs.Common.{ℕ, List, None, ◌∙◌, refl, sym, ap, subst}
use Rattle.std.specs.Prelude.{IsTrue}
use Rattle.merkle_nodes.specs.Roots.{root_hash_of, signed_text}
use Rattle.core_state.proofs.CutLemmas.{cut_kept, cut_cuts}
use Rattle.core_state.proofs.stored.MemState.cut.Goals as goal

pub invariant_of-self : goal.invariant_of-self
invariant_of-self g c = cut_kept _ _ _ c.self.invariant c.self.view_is c.args.to c.places-places.result (record {
  short = c.requires.short;
  found = c.requires.found;
  few = c.requires.few;
  end = refl;
  signature = c.signature_of.ensures.wide;
  roots_are = c.copy-self-inside.ensures ∙ c.requires.roots;
  root_is = c.root_hash-self-inside.ensures ∙ ap root_hash_of (sym c.copy-self-inside.ensures);
  blocks = c.truncate.ensures.items;
  last_is = c.places-places.ensures.places;
  places = c.clear_range.ensures.places;
  held = c.clear_range.ensures.range;
  values = c.prune.ensures.values;
})

pub returns : goal.returns
returns g c = cut_cuts _ _ (record { parts = _; roots = _; root = _; room = 0; spare = None }) c.self.invariant c.self.view_is c.args.to c.places-places.result (record {
  short = c.requires.short;
  found = c.requires.found;
  few = c.requires.few;
  end = refl;
  signature = c.signature_of.ensures.wide;
  roots_are = c.copy-self-inside.ensures ∙ c.requires.roots;
  root_is = c.root_hash-self-inside.ensures ∙ ap root_hash_of (sym c.copy-self-inside.ensures);
  blocks = c.truncate.ensures.items;
  last_is = c.places-places.ensures.places;
  places = c.clear_range.ensures.places;
  held = c.clear_range.ensures.range;
  values = c.prune.ensures.values;
}) (g.A.Verifier.accepts c.args.auth.now) c.args.roots.now c.copy-self-inside.ensures
    (subst (λ (root : List ℕ). IsTrue (g.A.Verifier.accepts c.args.auth.now (signed_text root c.args.to c.args.fork) c.signature_of.result)) c.root_hash-self-inside.ensures c.signature_of.ensures.accepted)
