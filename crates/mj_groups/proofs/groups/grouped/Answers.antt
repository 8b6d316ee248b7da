use Rattle.std.proofs.Common.{◌≡◌, ◌∙◌, [], ◌∷◌, map, sym, ap, arith}
use Rattle.std.proofs.lemmas.List.{map-append, map-id}
use Rattle.std.specs.List.{zip}
use Rattle.std.proofs.lemmas.Iterator.Adapters.{YieldsList-from_vec}
use Rattle.std.proofs.lemmas.Iterator.Consumers.{YieldsList-end}
use Rattle.std.proofs.lemmas.Result.{IfOk-weaker}
use Rattle.indexmap.specs.IndexSet.{insert_key}
use Rattle.mj_groups.specs.Groups.{different, grouped, having}
use Rattle.mj_groups.specs.Members.{with_item}
use Rattle.mj_groups.proofs.Members.{put_to_key, with_keys_more, beside, zipped}
use Rattle.mj_groups.proofs.groups.grouped.Goals as goal

pub loop-key-preserved : goal.loop-key-preserved
loop-key-preserved g c =
    let eq = g.K.PartialEq.eq in
    let so_far = c.loop-key.yielded in
    let key = c.in-Some.key in
    record {
      keys = c.in_ok-index.ensures.keys
          ∙ ap (λ keys. insert_key eq keys key) c.loop-key.invariant.keys
          ∙ sym (ap (different eq) (map-append (λ pair. pair.0) so_far ((key, c.in-Some.item) ∷ [])) ∙ with_keys_more eq [] (map (λ pair. pair.0) so_far) key);
      items = c.in_ok-put.ensures
          ∙ (λ i. with_item (c.in_ok-index.ensures.index i) c.in-Some.item (c.loop-key.invariant.items i))
          ∙ sym (put_to_key eq g.met.K.Eq.laws so_far key c.in-Some.item c.loop-key.keys.keys c.insert_full.new.self.keys
          c.loop-key.invariant.keys c.in_ok-index.ensures.keys c.in_ok-index.ensures.unique);
    }

pub returns : goal.returns
returns g c =
    let eq = g.K.PartialEq.eq in
    let keys = c.loop-key.keys.keys in
    let pairs = c.args.pairs in
    let gives = c.into_iter-key-iterator.ensures.into_iter_gives in
    let ends =
    YieldsList-end (YieldsList-from_vec pairs.items gives.0 (omega (arith, gives.1, pairs.ok)))
    c.loop-key.yielded c.loop-key.key-iterator c.loop-key.yielded_by c.next.result c.next.new.self c.in-None.is c.next.ensures.steps in
    let all : c.loop-key.yielded ≡ pairs.items = sym (map-id c.loop-key.yielded) ∙ ends.0 in
    IfOk-weaker c.beside.result _ _
    (λ groups at.
    ap (map (λ group. (group.0, group.1.items))) at
    ∙ zipped (λ list. list.items) keys c.loop-key.lists.items
    ∙ ap (zip keys) c.loop-key.invariant.items
    ∙ beside (λ key. having eq key c.loop-key.yielded) keys
    ∙ ap (map (λ key. (key, having eq key c.loop-key.yielded))) c.loop-key.invariant.keys
    ∙ ap (grouped eq) all)
    c.beside.ensures
