use Rattle.std.proofs.Common.{◌^◌}
use Rattle.std.specs.Int.{w16, w32, w64, w128}
use Rattle.byte_frame.proofs.Exact.{exact_byte, exact_number, exact_bytes, wide16, wide32, wide64}
use Rattle.byte_frame.proofs.Wide.{exact_signed, wide128}
use Rattle.byte_frame.proofs.laws.fields_are_exact.Goals as goal

pub returns : goal.returns
returns c = record {
  u8 = exact_byte;
  u16 = exact_number w16 (2 ^ 16) wide16;
  u32 = exact_number w32 (2 ^ 32) wide32;
  u64 = exact_number w64 (2 ^ 64) wide64;
  i64 = exact_signed w64 wide64;
  i128 = exact_signed w128 wide128;
  bytes = exact_bytes;
}
