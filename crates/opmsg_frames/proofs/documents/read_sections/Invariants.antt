use Rattle.std.proofs.Common.{◌≡◌, ◌≤◌, List, length}
use Rattle.std.specs.List.{AllByRecursion, flat_map}
use Rattle.opmsg_model.specs.Messages.{most_bytes}
use Rattle.opmsg_model.specs.Sections.{Section, IsSection, bodies, section_bytes}
use Rattle.opmsg_frames.proofs.SectionReads.{Left}
use Rattle.opmsg_frames.proofs.documents.read_sections.Given as goal

abbrev pub invariant-sections : goal.invariant-sections
invariant-sections l = record {
  short : length l.rest ≤ most_bytes;
  left : (sections : List Section) → l.bytes ≡ flat_map section_bytes sections → AllByRecursion IsSection sections → bodies sections ≡ 1
      → (left : List Section) × Left sections left l.rest l.doc l.sequences;
}

abbrev pub decreases-sections : goal.decreases-sections
decreases-sections l = length l.rest
