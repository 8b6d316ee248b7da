use Rattle.std.proofs.Common.{◌∙◌, ◌++◌, ◌<◌, ◌≤◌, [], ◌∷◌, map, set, length, refl, sym, ap, arith, true≢false}
use Rattle.std.proofs.lemmas.List.{map-append, map-set, length-map}
use Rattle.std.proofs.Math.ListN.{get_or-map}
use Rattle.mj_groups.proofs.Members.{put_in, put_behind}
use Rattle.mj_groups.proofs.groups.put.Goals as goal

pub returns-in-Some : goal.returns-in-Some
returns-in-Some g c =
    let lists = c.args.lists.now.items in
    let list = c.in-Some.list.now in
    let within : c.args.index < length (map (λ list. list.items) lists) = omega (arith, length-map lists (λ list. list.items), c.in-Some.ensures.variant.0 refl) in
    map-set (λ list. list.items) lists c.args.index c.push.new.self
    ∙ ap (set (map (λ list. list.items) lists) c.args.index)
    (c.in_ok-push.ensures.items
    ∙ ap (λ items. items ++ c.args.item ∷ [])
    (ap (λ list. list.items) c.in-Some.ensures.value ∙ sym (get_or-map (λ list. list.items) lists c.args.index list)))
    ∙ put_in c.args.item c.args.index (map (λ list. list.items) lists) list.items within

pub returns : goal.returns
returns g c =
    let lists = c.args.lists.now.items in
    let outside : c.args.index < c.args.lists.now.len → ⊥ = λ within. true≢false (sym (c.in_default.ensures.variant.1 within)) in
    let behind : length (map (λ list. list.items) lists) ≤ c.args.index = omega (arith, length-map lists (λ list. list.items), outside, c.args.lists.now.ok) in
    ap (map (λ list. list.items)) c.in_ok-push-2.ensures.items
    ∙ map-append (λ list. list.items) lists (c.in_ok-only.field-0 ∷ [])
    ∙ ap (λ items. map (λ list. list.items) lists ++ items ∷ []) c.in_ok-only.ensures
    ∙ put_behind c.args.item c.args.index (map (λ list. list.items) lists) behind
