use Rattle.std.proofs.Common.{◌≡◌, ◌++◌, drop, true}
use Rattle.std.specs.List.{list_all}
use Rattle.mj_container.specs.Changes.{fields_from}
use Rattle.mj_plan.specs.Sound.{is_header_mapping}
use Rattle.mj_changes.proofs.fields.append_each.Given as goal

-- what is appended still, and that it has its form
abbrev pub invariant-loop-name : goal.invariant-loop-name
invariant-loop-name l = record {
  fields : l.head ++ fields_from (drop l.name-index l.mapping) l.attributes ≡ l.initial.head ++ fields_from l.mapping l.attributes;
  formed : list_all is_header_mapping (drop l.name-index l.mapping) ≡ true;
}
