-- The transfer whose numbers are given one by one, in the order of document 01, "Video memory and block transfers".
use Rattle.std.specs.Prelude.{ℕ, Bool}
use Rattle.blit_frame.specs.declared.Transfer.{Transfer}

abbrev pub given : ℕ → ℕ → ℕ → ℕ → ℕ → ℕ → ℕ → Bool → Bool → ℕ → ℕ → Transfer
given dst dstspan src srcspan width height code leftward upward pattern row =
    record {
      destination = record { address = dst; span = dstspan };
      source = record { address = src; span = srcspan };
      width = width;
      height = height;
      code = code;
      leftward = leftward;
      upward = upward;
      pattern_address = pattern;
      pattern_row = row;
    }
