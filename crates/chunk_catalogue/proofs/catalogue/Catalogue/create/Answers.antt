use Rattle.std.proofs.Common.{◌≡◌, ◌∙◌, sym, ap, rules, arith}
use Rattle.std.specs.Prelude.{None}
use Rattle.std.specs.Arc.{arc_value}
use Rattle.chunk_model.specs.Changes.{known_table}
use Rattle.chunk_model.specs.Requests.{changed}
use Rattle.chunk_model.specs.Tables.{first_table}
use Rattle.chunk_catalogue.specs.Catalogues.{changes_of}
use Rattle.chunk_catalogue.proofs.Answered.{creation_of, created}
use Rattle.chunk_catalogue.proofs.Next.{creation_made}
use Rattle.chunk_catalogue.proofs.catalogue.Catalogue.create.Goals as goal

pub returns-clause-answer : goal.returns-clause-answer
returns-clause-answer c =
    let ns = c.args.namespace.now in
    let known = c.args.self.now.known ns in
    let none : known_table ns (changes_of c.args.self.now) ≡ None = search (rules, known) in
    let same : c.in_ok-copy-2.field-0 ≡ ns = search rules in
    ap (λ n. changed (creation_of n 1 c.args.at.0)) same ∙ sym (created ns c.args.at.0 (changes_of c.args.self.now) none)

pub returns-clause-next : goal.returns-clause-next
returns-clause-next c =
    let ns = c.args.namespace.now in
    let known = c.args.self.now.known ns in
    let none : known_table ns (changes_of c.args.self.now) ≡ None = search (rules, known) in
    let same : c.in_ok-copy-2.field-0 ≡ ns = search rules in
    let first : arc_value c.in_ok-new.field-0 ≡ first_table (record { namespace = ns; epoch = 1; at = c.args.at.0 }) = search rules in
    let made = creation_made ns _ c.args.at.0 (changes_of c.args.self.now) _ same c.requires.later none first in
    record { follows = made.0; table = made.1; room = search (rules, arith) }
