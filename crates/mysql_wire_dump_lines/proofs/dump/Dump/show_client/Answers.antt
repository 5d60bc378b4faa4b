use Rattle.std.proofs.Common.{refl, subst, sym}
use Rattle.mysql_wire_dump_lines.specs.declared.packet_stream.Next.{Next}
use Rattle.mysql_wire_dump_lines.specs.PacketStreams.{AtEnd}
use Rattle.mysql_wire_session.specs.State.{state_of}
use Rattle.mysql_wire_dump_lines.proofs.DumpLemmas.{client_shown, unread_seen}
use Rattle.mysql_wire_dump_lines.proofs.dump.Dump.show_client.Goals as goal

pub returns : goal.returns
returns g c =
    let pushes = c.in_ok-show_next.ensures in
    record {
      part = pushes.written;
      appended = pushes.appended;
      more = λ shown client server written dumping is_turn looked.
          client_shown c.args.self.now _ (state_of c.show_next.new.self.session) pushes.id pushes.kind pushes.bytes pushes.fields pushes.written pushes.is_next
          pushes.large pushes.named pushes.held pushes.line refl pushes.options_are refl
          c.in_ok-advance.ensures.limit c.in_ok-advance.ensures.passes shown client server written dumping is_turn looked;
      options_are = pushes.options_are;
      client_seen = λ _. unread_seen _ c.in_ok-advance.ensures.next;
      server_seen = λ seen. seen;
      client_end = λ left ended. subst (λ (n : Next). AtEnd n left) (sym c.in_ok-advance.ensures.next) tt;
      server_end = λ left ended. ended;
    }
