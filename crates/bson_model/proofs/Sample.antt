-- The bytes of `{_id: 1}`, and documents inside one another.
use Rattle.std.proofs.Common.{◌≡◌, ℕ, zero, suc, [], take, drop, refl, arith, rules}
use Rattle.std.specs.Prelude.{pos}
use Rattle.bson_model.specs.Tree.{document_depth}
use Rattle.bson_model.specs.Grammar.{ReadsAs}
use Rattle.bson_model.specs.SampleDocuments.{id_document, id_bytes, nested}

pub id_reads : ReadsAs id_bytes (id_document (pos 1))
id_reads = (take 9 (drop 4 id_bytes), refl, omega arith, (take 4 (drop 9 id_bytes), [], refl, search rules, search rules, (refl, search rules), refl))

pub nested_depth : (n : ℕ) → document_depth (nested n) ≡ suc n
nested_depth zero = refl
nested_depth (suc n) = omega (arith, nested_depth n)
