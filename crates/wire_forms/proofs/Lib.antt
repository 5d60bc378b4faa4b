pub mod PutText
