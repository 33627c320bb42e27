pub mod DegreeTable
