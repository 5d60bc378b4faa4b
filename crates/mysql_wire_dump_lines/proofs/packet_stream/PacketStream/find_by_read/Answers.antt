use Rattle.std.proofs.Common.{◌<◌, ◌≤◌, ℕ, List, [], ◌∷◌, length, slice_index, rules, arith, refl, sym, subst, inl}
use Rattle.mysql_wire_dump_lines.specs.declared.packet_stream.End.TheVariants.{Unfinished}
use Rattle.mysql_wire_dump_lines.specs.declared.packet_stream.Next.TheVariants.{Packet}
use Rattle.mysql_wire_dump_lines.specs.PacketStreams.{BeginsWith}
use Rattle.mysql_wire_dump_lines.proofs.PacketStreamLemmas.{found_after, found_behind, found_none}
use Rattle.mysql_wire_dump_lines.proofs.packet_stream.PacketStream.find_by_read.Goals as goal

-- the fourth byte of four or more is the id of the header in front
begins_at : (bytes : List ℕ) → 4 ≤ length bytes → BeginsWith (slice_index bytes 3) bytes
begins_at [] long = absurd (omega (arith, long))
begins_at (a ∷ []) long = absurd (omega (arith, long))
begins_at (a ∷ b ∷ []) long = absurd (omega (arith, long))
begins_at (a ∷ b ∷ c ∷ []) long = absurd (omega (arith, long))
begins_at (a ∷ b ∷ c ∷ id ∷ more) long = (a, b, c, more, refl)

pub returns-in-Some-clause-found : goal.returns-in-Some-clause-found
returns-in-Some-clause-found g c idle =
    let came = c.in_ok-read_header.ensures.came in
    let left = g.R.Read.remaining c.read_header.new.input in
    found_after (Packet c.in-Some.header.seq_id) c.args.self.now _ c.lend_whole.new.self (g.R.Read.remaining c.args.input.now) left left
    came.0 came.1 came.2 refl refl (c.lend_whole.ensures.found left (record {
      most_is = idle.most_is;
      taken = idle.taken;
      lends_none = idle.lends_none;
      fresh = record { begun_is = idle.fresh.begun_is; len = idle.fresh.len; held = idle.fresh.held; between = idle.fresh.between };
    }))

pub returns-clause-found : goal.returns-clause-found
returns-clause-found g c =
    let came = c.in_ok-read_header.ensures.came in
    let said = rw c.as_slice.ensures at c.in-Some-read.ensures in
    let begins = subst (λ (id : ℕ). BeginsWith id c.read_header.new.src.items) (sym said.id) (begins_at c.read_header.new.src.items (said.there.0 refl)) in
    found_behind c.take_packet.result _ c.args.self.now _ c.take_packet.new.self (g.R.Read.remaining c.args.input.now) (g.R.Read.remaining c.read_header.new.input)
    (g.R.Read.remaining c.take_packet.new.input) came.0 came.1 came.2 refl refl (λ idle. (
      record {
        most_is = idle.most_is;
        taken = idle.taken;
        lends_none = idle.lends_none;
        fresh = record { begun_is = idle.fresh.begun_is; len = idle.fresh.len; held = idle.fresh.held; between = idle.fresh.between };
      },
      begins,
    )) c.take_packet.ensures.found

pub returns-else-is_empty-clause-found : goal.returns-else-is_empty-clause-found
returns-else-is_empty-clause-found g c idle =
    let came = c.in_ok-read_header.ensures.came in
    let said = rw c.as_slice.ensures at c.in_default-read.ensures in
    let short : length c.read_header.new.src.items < 4 = search (rules, said.there) in
    found_none Unfinished c.args.self.now _ (g.R.Read.remaining c.args.input.now) (g.R.Read.remaining c.read_header.new.input) came.0 came.1 came.2 refl refl refl refl refl
    (inl short) idle
