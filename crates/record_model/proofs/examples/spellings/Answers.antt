-- The names pass the test, and the numbers are small.
use Rattle.std.proofs.Common.{arith}
use Rattle.record_model.proofs.SampleNames.{sample_namespace}
use Rattle.record_model.proofs.examples.spellings.Goals as goal

pub returns-clause-creation_sound : goal.returns-clause-creation_sound
returns-clause-creation_sound c = record {
  namespace = sample_namespace;
  epoch = omega arith;
  at = omega arith;
}

pub returns-clause-first_table_sound : goal.returns-clause-first_table_sound
returns-clause-first_table_sound c = record {
  namespace = sample_namespace;
  epoch = omega arith;
  changes = omega arith;
  oldest = omega arith;
  count = omega arith;
  chunks = (
    record {
      min = tt;
      max = tt;
      version = record { epoch = omega arith; major = omega arith; minor = omega arith };
      count = omega arith;
      owners = ((omega arith, omega arith), tt);
    },
    tt,
  );
}
