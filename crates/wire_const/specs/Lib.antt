pub mod EnumNumbers
pub mod FlagSets
pub mod RoundTrips
pub use Rattle.bitflags.specs.Sets
