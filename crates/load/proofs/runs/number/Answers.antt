use Rattle.std.proofs.Common.{◌≡◌, ◌+◌, ◌*◌, get_or, arith, rules}
use Rattle.std.proofs.lemmas.List.{get_or_past}
use Rattle.load.proofs.Fields.{number_four}
use Rattle.load.proofs.runs.number.Goals as goal

pub returns-in-empty : goal.returns-in-empty
returns-in-empty c =
    let b = c.args.bytes.now in
    omega (arith, number_four b, get_or_past b 0 0 (omega arith), get_or_past b 1 0 (omega arith), get_or_past b 2 0 (omega arith), get_or_past b 3 0 (omega arith))

pub returns-in-len1 : goal.returns-in-len1
returns-in-len1 c =
    let b = c.args.bytes.now in
    omega (arith, number_four b, c.from.ensures, get_or_past b 1 0 (omega arith), get_or_past b 2 0 (omega arith), get_or_past b 3 0 (omega arith))

pub returns-in-len2 : goal.returns-in-len2
returns-in-len2 c =
    let b = c.args.bytes.now in
    let v : c.from_le_bytes.result ≡ get_or b 0 0 + get_or b 1 0 * 256 = search rules in
    omega (arith, number_four b, get_or_past b 2 0 (omega arith), get_or_past b 3 0 (omega arith))

pub returns-in-len3 : goal.returns-in-len3
returns-in-len3 c =
    let b = c.args.bytes.now in
    let v : c.from_le_bytes-in-len3.result ≡ get_or b 0 0 + get_or b 1 0 * 256 + get_or b 2 0 * 65536 = search rules in
    omega (arith, number_four b, get_or_past b 3 0 (omega arith))

pub returns-in-len4-up : goal.returns-in-len4-up
returns-in-len4-up c =
    let b = c.args.bytes.now in
    let v : c.from_le_bytes-in-len4-up.result ≡ get_or b 0 0 + get_or b 1 0 * 256 + get_or b 2 0 * 65536 + get_or b 3 0 * 16777216 = search rules in
    omega (arith, number_four b)
