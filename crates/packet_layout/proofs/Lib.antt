pub mod SumWord
