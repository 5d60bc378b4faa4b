use Rattle.std.proofs.Common.{rules}
use Rattle.wire_codec.specs.Codec.{codec_state}
use Rattle.mysql_wire_c_calls.proofs.FindLemmas.{finds_packet, finds_none, finds_too_large, finds_lost}
use Rattle.mysql_wire_c_calls.proofs.side.find_apart.Goals as goal

pub returns-in-Ok-true-clause-finds : goal.returns-in-Ok-true-clause-finds
returns-in-Ok-true-clause-finds c =
    finds_packet c.args.front.now (codec_state c.args.codec.now c.args.src.now.items c.args.dst.now.items) c.decode.result
    (codec_state c.decode.new.self c.decode.new.src.items c.decode.new.dst.items)
    (c.requires.found, c.requires.ready, c.decode.ensures.aligned, search rules)

pub returns-in-Ok-false-clause-finds : goal.returns-in-Ok-false-clause-finds
returns-in-Ok-false-clause-finds c =
    finds_none c.args.front.now (codec_state c.args.codec.now c.args.src.now.items c.args.dst.now.items) c.decode.result
    (codec_state c.decode.new.self c.decode.new.src.items c.decode.new.dst.items)
    (c.requires.found, c.requires.ready, c.decode.ensures.aligned, search rules)

pub returns-in-Err-PacketTooLarge-clause-finds : goal.returns-in-Err-PacketTooLarge-clause-finds
returns-in-Err-PacketTooLarge-clause-finds c =
    finds_too_large c.args.front.now (codec_state c.args.codec.now c.args.src.now.items c.args.dst.now.items) c.decode.result
    (codec_state c.decode.new.self c.decode.new.src.items c.decode.new.dst.items)
    (c.requires.found, c.requires.ready, c.decode.ensures.aligned, search rules)

pub returns-in-Err-PacketsOutOfSync-clause-finds : goal.returns-in-Err-PacketsOutOfSync-clause-finds
returns-in-Err-PacketsOutOfSync-clause-finds c =
    finds_lost c.args.front.now (codec_state c.args.codec.now c.args.src.now.items c.args.dst.now.items) c.decode.result
    (codec_state c.decode.new.self c.decode.new.src.items c.decode.new.dst.items)
    (c.requires.found, c.requires.ready, c.decode.ensures.aligned, search rules)
