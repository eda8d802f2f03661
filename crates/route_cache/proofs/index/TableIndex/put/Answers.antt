use Rattle.std.proofs.Common.{◌≡◌, ◌∙◌, ap, subst, sym, true≢false, rules, arith, List}
use Rattle.std.specs.Prelude.{None}
use Rattle.std.specs.Arc.{arc_value}
use Rattle.indexmap.specs.IndexSet.{spare}
use Rattle.chunk_model.specs.Tables.{Table, table_of}
use Rattle.route_cache.specs.Puts.{put_table}
use Rattle.route_cache.proofs.Puts.{absent, replaced}
use Rattle.route_cache.proofs.index.TableIndex.put.Goals as goal

pub unreachable-requires : goal.unreachable-requires
unreachable-requires c =
    let t = arc_value c.args.table in
    let same : c.self.inside.tables.keys ≡ c.args.self.now.tables = search rules in
    let room : spare c.self.inside.tables ≡ c.args.self.now.room = search rules in
    let none = absent t c.self.inside.tables.keys c.in-Err.ensures.absent in
    let one = c.requires.room (subst (λ (ts : List Table). table_of t.namespace ts ≡ None) same none) in
    true≢false (sym (c.in-Err.ensures.succeeds (omega arith)))

pub returns : goal.returns
returns c =
    let same : c.self.inside.tables.keys ≡ c.args.self.now.tables = search rules in
    c.in-Ok.ensures.keys ∙ replaced (arc_value c.args.table) c.self.inside.tables.keys ∙ ap (put_table (arc_value c.args.table)) same
