-- The declared types that lemmas speak of, with their variants.
pub use Rattle.wire_codec.specs.declared.codec.chunk.ChunkInfo.{ChunkInfo}
pub use Rattle.wire_codec.specs.declared.codec.chunk.ChunkInfo.TheVariants.{Middle, Last}
pub use Rattle.wire_codec.specs.declared.codec.error.PacketCodecError.{PacketCodecError}
pub use Rattle.wire_codec.specs.declared.codec.error.PacketCodecError.TheVariants.{PacketTooLarge, OutOfMemory, PacketsOutOfSync, Io}
pub use Rattle.wire_codec.specs.declared.codec.packet.Progress.{Progress}
pub use Rattle.wire_codec.specs.declared.codec.packet.Progress.TheVariants.{Whole, Starved, More}
