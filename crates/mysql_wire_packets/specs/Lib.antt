pub mod Oks
