use Rattle.std.proofs.Common.{rules, ◌∙◌, ◌++◌, ◌∷◌, [], refl, sym, ap}
use Rattle.node_cell.proofs.Closing.{joined_all, joined_more, joined_none, part_self}
use Rattle.node_cell.proofs.Standing.{free_both, held_same, part_next}
use Rattle.node_cell.proofs.close.learn.Goals as goal

pub notes-init : goal.notes-init
notes-init g c = record {
  table = c.requires.table;
  free = c.requires.free;
  held = refl;
  kept = part_self c.args.pass.now.me.0;
  joined = joined_none c.args.notes.items c.args.pass.now.me.0;
}

pub notes-preserved : goal.notes-preserved
notes-preserved g c = record {
  table = c.join.ensures.0;
  free = free_both c.notes.pass.me c.join.new.pass.me c.note.inside.pass.me c.join.ensures.1 c.notes.invariant.free c.note.invariant.1;
  held = held_same c.notes.pass.me.0 c.note.inside.pass.me.0 c.join.new.pass.me.0 (ap (λ m. m.0) c.join.ensures.1) c.note.invariant.2 ∙ c.notes.invariant.held;
  kept = part_next c.args.pass.now.me.0 c.notes.pass.me.0 c.note.inside.pass.me.0 c.join.new.pass.me.0 (ap (λ m. m.0) c.join.ensures.1) c.notes.invariant.kept;
  joined = joined_more c.args.notes.items c.notes.notes.items c.pop.new.self.items c.notes.pass.me.0 c.note.inside.pass.me.0 c.join.new.pass.me.0
      c.notes.invariant.joined
      (c.in-Some.ensures.items ∙ ap (λ v. c.pop.new.self.items ++ v ∷ []) (sym c.note.view_is)) (ap (λ m. m.0) c.join.ensures.1);
}

pub returns-clause-notes : goal.returns-clause-notes
returns-clause-notes g c = joined_all c.args.notes.items c.notes.notes.items c.notes.pass.me.0 c.notes.invariant.joined (search rules)
