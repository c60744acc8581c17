use Rattle.pe.proofs.Prelude.{arith, common_steps}
use Rattle.pe.proofs.headers.read_optional_header.Goals as goal

pub returns-then-size-lt-PE32_SIZE : goal.returns-then-size-lt-PE32_SIZE
returns-then-size-lt-PE32_SIZE c = record {
  reports = grind (arith, common_steps);
  directory = grind (arith, common_steps);
  room = grind (arith, common_steps);
  end = grind (arith, common_steps);
  within = grind (arith, common_steps);
}

pub returns-then-size-lt-PE32_PLUS_SIZE : goal.returns-then-size-lt-PE32_PLUS_SIZE
returns-then-size-lt-PE32_PLUS_SIZE c = record {
  reports = grind (arith, common_steps);
  directory = grind (arith, common_steps);
  room = grind (arith, common_steps);
  end = grind (arith, common_steps);
  within = grind (arith, common_steps);
}

pub returns-then-magic-ne-PE32_PLUS : goal.returns-then-magic-ne-PE32_PLUS
returns-then-magic-ne-PE32_PLUS c = record {
  reports = grind (arith, common_steps);
  directory = grind (arith, common_steps);
  room = grind (arith, common_steps);
  end = grind (arith, common_steps);
  within = grind (arith, common_steps);
}

pub returns-then-u32_at-lt-DIRECTORIES : goal.returns-then-u32_at-lt-DIRECTORIES
returns-then-u32_at-lt-DIRECTORIES c = record {
  reports = grind (arith, common_steps);
  directory = grind (arith, common_steps);
  room = grind (arith, common_steps);
  end = grind (arith, common_steps);
  within = grind (arith, common_steps);
}

pub returns : goal.returns
returns c = record {
  reports = grind (arith, common_steps);
  directory = grind (arith, common_steps);
  room = grind (arith, common_steps);
  end = grind (arith, common_steps);
  within = grind (arith, common_steps);
}
