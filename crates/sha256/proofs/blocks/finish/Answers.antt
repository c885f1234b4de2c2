use Rattle.std.proofs.Common.{◌≡◌, ℕ, ◌+◌, ◌*◌, ◌%◌, ◌/◌, ◌^◌, ◌<◌, ◌≤◌, length, arith}
use Rattle.sha256.proofs.Absorbing.{absorbed_chunks}
use Rattle.sha256.proofs.Padding.{bits_of, rest_of, finish_short, finish_long}
use Rattle.sha256.proofs.blocks.finish.Goals as goal

-- the length in bits, as the code takes it
bits : (blocks n : ℕ) → (blocks * 64 % 2 ^ 64 + n) % 2 ^ 64 * 8 % 2 ^ 64 ≡ bits_of (64 * blocks + n)
bits blocks n = omega arith

pub returns-then-rest-lt56 : goal.returns-then-rest-lt56
returns-then-rest-lt56 c =
    let b = bits c.args.blocks (length c.args.message.now) in
    let a = absorbed_chunks (length c.args.message.now / 64) c.args.message.now c.args.h (omega arith) in
    let short : length (rest_of c.args.message.now) < 56 = rw c.as_chunks.ensures.back at c.if-rest-lt56.true in
    let e = finish_short (64 * c.args.blocks) c.args.message.now c.args.h (omega arith) short in
    cc

pub returns-else-rest-lt56 : goal.returns-else-rest-lt56
returns-else-rest-lt56 c =
    let b = bits c.args.blocks (length c.args.message.now) in
    let a = absorbed_chunks (length c.args.message.now / 64) c.args.message.now c.args.h (omega arith) in
    let long : 56 ≤ length (rest_of c.args.message.now) = rw c.as_chunks.ensures.back at c.if-rest-lt56.false in
    let e = finish_long (64 * c.args.blocks) c.args.message.now c.args.h (omega arith) long in
    cc
