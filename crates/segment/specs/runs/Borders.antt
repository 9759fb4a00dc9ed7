-- How a job is cut, at the borders of the rule, evaluated on a sub-area of three sectors of 16 that begins at physical 16, sector burst 32.
use Rattle.std.specs.Prelude.{ℕ, ◌≡◌, refl}
use Rattle.arith.specs.Multiples.{multiple}
use Rattle.memory.specs.declared.JobType.{JobType}
use Rattle.memory.specs.declared.JobType.TheVariants.{Write, Read, Erase}
use Rattle.plan.specs.declared.records.SubAreaRecord.{SubAreaRecord}
use Rattle.segment.specs.Segments.{burst_or_unit, segment_in}

-- page 4, page burst 8, reads 1 to 8
abbrev pub sample : SubAreaRecord
sample =
    record {
      area = 0;
      device = 0;
      start = 16;
      erase = record { unit = 16; burst = 32 };
      write = record { unit = 4; burst = 8 };
      read = record { unit = 1; burst = 8 };
      sector_count = 3;
      write_retries = 1;
      erase_retries = 0;
    }

abbrev pub length_at : JobType → ℕ → ℕ → ℕ
length_at k y r = (segment_in k 0 sample y r).length

pub borders :
    -- offset 0 is at physical 16, which is no multiple of 32; offset 16 is at physical 32, which is one
    (length_at Erase 0 48 ≡ 16)
    × (length_at Erase 16 32 ≡ 32)
    -- one byte short of a burst
    × (length_at Erase 16 31 ≡ 16)
    × (length_at Write 0 7 ≡ 4)
    × (length_at Write 0 8 ≡ 8)
    × (length_at Write 4 8 ≡ 4)
    -- reads: what is left of the job, of the sub-area, or the largest read
    × (length_at Read 3 5 ≡ 5)
    × (length_at Read 3 9 ≡ 8)
    × (length_at Read 45 9 ≡ 3)
unfolding burst_or_unit multiple
borders = (refl, refl, refl, refl, refl, refl, refl, refl, refl)
